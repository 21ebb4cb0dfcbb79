-- From what a command did to what its entry did, and from one call to several.
use Rattle.std.proofs.Common.{◌≡◌, ◌≢◌, ◌⊎◌, inl, inr, ℕ, Bool, true, false, List, [], ◌++◌, refl, sym, ◌∙◌, ap, subst}
use Rattle.std.proofs.lemmas.List.{append-nil}
use Rattle.std.specs.Prelude.{Result, Ok, Err, IsErrOf, IsTrue}
use Rattle.door_outside.specs.Disk.{Disk, Image, AllNow, Between, as_read}
use Rattle.door_outside.specs.Shelf.{ShelfFiles}
use Rattle.door_outside.proofs.Moments.{still, joined, weaker}
use Rattle.intent_journal.specs.Hosts.{IsSettled}
use Rattle.intent_journal.specs.Patches as Data
use Rattle.intent_journal.specs.Recovered.{recovered}
use Rattle.entry_runs.specs.Door.{World, Act}
use Rattle.entry_runs.specs.Entry.{Reply, Recovers, Keeps, IsAt, IsDone, Answered, Works, Carried, InEntry, Performs}
use Rattle.entry_runs.specs.Saying.{SaysIn, Spoken, Voiced}
use Rattle.entry_runs.specs.Promise.{IsFront, AsThen, Replies, Stopped}
use Rattle.entry_runs.specs.Runs.{once_said}
use Rattle.entry_runs.specs.declared.class.Class.{Class}
use Rattle.entry_runs.specs.declared.stop.Stop.{Stop}
use Rattle.entry_runs.specs.declared.stop.Stop.TheVariants.{DiskFault, ShelfFault, VoiceFault, OutOfMemory}
use Rattle.entry_runs.proofs.Voice.{as_before, settled_then, firm_then}

recovers_wider : {P Q : Data.HostFiles → Type 0} {so_far : List ℕ} → ((files : Data.HostFiles) → P files → Q files) → (image : Image) → Recovers P so_far image → Recovers Q so_far image
recovers_wider wider image it = record { files = wider (recovered image.files) it.files; said = it.said }

pub keeps_wider : {P Q : Data.HostFiles → Type 0} {old new : Disk} → ((files : Data.HostFiles) → P files → Q files) → Keeps P old new → Keeps Q old new
keeps_wider {new = new} wider keeps = record {
  moments = weaker keeps.moments (recovers_wider wider);
  reads = recovers_wider wider (as_read new) keeps.reads;
  settled = keeps.settled;
}

-- nothing went by
pub keeps_still : {P : Data.HostFiles → Type 0} {disk : Disk} → P (recovered disk.files) → IsSettled disk → Keeps P disk disk
keeps_still {disk = disk} here settled = record { moments = still disk _; reads = record { files = here; said = refl }; settled = settled }

-- calls, and then others
pub keeps_on : {P : Data.HostFiles → Type 0} {old mid new : Disk} → Keeps P old mid → Keeps P mid new → Keeps P old new
keeps_on {P} {old} {mid} {new} first second = record {
  moments = joined first.moments (weaker second.moments (λ image it. further image it));
  reads = further (as_read new) second.reads;
  settled = second.settled;
}
  where
    further : (image : Image) → Recovers P mid.said image → Recovers P old.said image
    further image it = record { files = it.files; said = it.said ∙ first.reads.said }

whole_front : (text : List ℕ) → IsFront text text
whole_front text = record { unheard = []; whole = sym (append-nil text) }

by_bool : (b : Bool) → (b ≡ false) ⊎ IsTrue b
by_bool true = inr refl
by_bool false = inl refl

not_done : {P : Type 0} (stop : Stop) → stop ≢ VoiceFault → IsDone (Err stop) → P
not_done DiskFault silent done = absurd done
not_done ShelfFault silent done = absurd done
not_done OutOfMemory silent done = absurd done
not_done VoiceFault silent done = absurd (silent refl)

module _ {State : Type 0} (Stores : State → Data.HostFiles → Type 0) (act : Act State) where
  module _ {world : World State} {old mid : Disk} {shelf : ShelfFiles} {reply : Reply}
      (answered : Answered Stores act world old mid shelf reply) where
    abbrev replies_so : (image : Image) → SaysIn reply.text mid image → Replies act world old.said image.said
    replies_so image says = record {
      stepped = answered.stepped;
      step = answered.step;
      heard = says.heard;
      part = subst (IsFront says.heard) (sym answered.text_is) says.part;
      said_is = says.said ∙ ap (λ (l : List ℕ). l ++ says.heard) answered.said_is;
    }

    in_reply : (act.reach.board ≡ false → AllNow mid (AsThen old)) → (image : Image) → SaysIn reply.text mid image → InEntry Stores act world old image
    in_reply off_board image says = elim (by_bool (act.reach.board)) [
      | inl off ↦ inr (inr (record { reply = replies_so image says; off_board = off; files = as_before old mid (off_board off) image says.files }))
      | inr on ↦ inr (inl (record {
        reply = replies_so image says;
        stores = subst (Stores answered.stepped.world.state) (sym (ap recovered says.files.files ∙ answered.firm on says.files.before says.files.could_be)) answered.at.board.stores;
      }))
    ]

    -- what stands once the reply is said
    module _ (new : Disk) (all : AllNow new (AsThen mid)) (same : new.files ≡ mid.files) where
      at_end : IsAt Stores answered.stepped.world new shelf
      at_end = record {
        board = record {
          settled = settled_then mid new all same answered.at.board.settled;
          stores = subst (λ (f : Data.HostFiles). Stores answered.stepped.world.state (recovered f)) (sym same) answered.at.board.stores;
        };
        shelf_is = answered.at.shelf_is;
      }

      carried : new.said ≡ mid.said ++ reply.text → Carried Stores act world old new shelf reply.class
      carried said = record {
        stepped = answered.stepped;
        step = answered.step;
        class_is = answered.class_is;
        said_is = said ∙ (λ i. answered.said_is i ++ sym answered.text_is i);
        at = at_end;
      }

      cut_off : SaysIn reply.text mid (as_read new) → Stopped Stores act VoiceFault world old.said new shelf
      cut_off says = (replies_so (as_read new) says, subst (λ (f : Data.HostFiles). Stores answered.stepped.world.state (recovered f)) (sym same) answered.at.board.stores, answered.at.shelf_is)

  module _ {world : World State} {old mid new : Disk} {shelf : ShelfFiles} {reply : Reply}
      (works : Works Stores act world old mid shelf (Ok reply)) {T E : Type 0} {spoken : Result T E} (voiced : Voiced reply.text mid new spoken) where
    files_then : AllNow new (AsThen mid)
    files_then image left = (voiced.now image left).files

    moments_said : Between old new (InEntry Stores act world old)
    moments_said = joined (weaker works.keeps.moments (λ image it. inl it)) (weaker voiced.moments (in_reply works.ends works.off_board))

    off_board_said : act.reach.board ≡ false → AllNow new (AsThen old)
    off_board_said off image left = as_before old mid (works.off_board off) image (files_then image left)

    went_on : ¬ IsErrOf {T = Reply} {E = Stop} (Ok reply) DiskFault
    went_on is = absurd (cc is)

    -- the reply was said whole
    pub performs_said : new.said ≡ mid.said ++ reply.text → Performs Stores act world old new shelf (Ok reply.class)
    performs_said said = record {
      moments = moments_said;
      ends = carried works.ends new files_then voiced.files said;
      touched = λ on done. firm_then mid new files_then voiced.files (works.ends.firm on);
      settled = settled_then mid new files_then voiced.files works.keeps.settled;
      firm = λ none firm. firm_then mid new files_then voiced.files (works.firm went_on firm);
      off_board = off_board_said;
    }

    -- a front of the reply was said
    pub performs_cut : Performs Stores act world old new shelf (Err VoiceFault)
    performs_cut = record {
      moments = moments_said;
      ends = cut_off works.ends new files_then voiced.files (voiced.now (as_read new) new.reads);
      touched = λ on done. firm_then mid new files_then voiced.files (works.ends.firm on);
      settled = settled_then mid new files_then voiced.files works.keeps.settled;
      firm = λ none firm. firm_then mid new files_then voiced.files (works.firm went_on firm);
      off_board = off_board_said;
    }

  -- the reply was said, whole or not
  pub performs_spoken : {world : World State} {old mid new : Disk} {shelf : ShelfFiles} {reply : Reply} → Works Stores act world old mid shelf (Ok reply)
      → {T E : Type 0} (spoken : Result T E) → Voiced reply.text mid new spoken → Performs Stores act world old new shelf (once_said reply.class spoken)
  performs_spoken works (Ok value) voiced = performs_said works voiced voiced.done
  performs_spoken works (Err fault) voiced = performs_cut works voiced

  -- the command was stopped, and nothing is said
  pub performs_stopped : {world : World State} {old new : Disk} {shelf : ShelfFiles} {stop : Stop}
      → Works Stores act world old new shelf (Err stop) → Performs Stores act world old new shelf (Err stop)
  performs_stopped {stop = stop} works = record {
    moments = weaker works.keeps.moments (λ image it. inl it);
    ends = works.ends.stopped;
    touched = λ on. not_done stop works.ends.silent;
    settled = works.keeps.settled;
    firm = λ none. works.firm (λ is. let same : stop ≡ DiskFault = cc in none (ap Err same));
    off_board = works.off_board;
  }

  -- what the command answers was said, or it was stopped
  pub performs_as_said : {world : World State} {old : Disk} {shelf : ShelfFiles} {Host : Type 0} (disk : Host → Disk) {mid new : Host} {result : Result Class Stop} (answer : Result Reply Stop)
      → Works Stores act world old (disk mid) shelf answer → Spoken disk answer mid new result → Performs Stores act world old (disk new) shelf result
  performs_as_said {world} {old} {shelf} disk {mid} {new} (Ok reply) works spoken =
      subst (Performs Stores act world old (disk new) shelf) (sym spoken.2) (performs_spoken works spoken.0 spoken.1)
  performs_as_said {world} {old} {shelf} {Host} disk {mid} {new} (Err stop) works spoken =
      subst (Performs Stores act world old (disk new) shelf) (sym spoken.1)
      (subst (λ (host : Host). Performs Stores act world old (disk host) shelf (Err stop)) (sym spoken.0) (performs_stopped works))
