-- A loop over the conferences of a ledger: those that were read, and those that are left.
use Rattle.std.proofs.Common.{◌≡◌, ℕ, ◌+◌, ◌<◌, Bool, true, List, [], ◌∷◌, ◌++◌, length, map, drop, get_or, Option, Ok, refl, sym, ap, ◌∙◌, subst, arith, append_assoc}
use Rattle.std.specs.Prelude.{All, IsTrue}
use Rattle.std.specs.List.{AllZip}
use Rattle.std.proofs.lemmas.List.{append-nil, map-append, length-map, length_push, drop_more}
use Rattle.std.proofs.lemmas.List.Elements.{All-push}
use Rattle.board_ledger.specs.declared.ledger.Ledger.{Ledger}
use Rattle.board_ledger.specs.damage_rules.Rules.{Stops}
use Rattle.board_ledger.proofs.damage_rules.KeptRules.{with_front, one_more, one_fails}
use Rattle.board_ledger.specs.intent_journal.Patches.{HostFiles}
use Rattle.jam_base.specs.Change.{files_of_place}
use Rattle.jam_base.specs.Contents.{Contents}
use Rattle.jam_base.specs.Outlined.{outlined}
use Rattle.jam_base.specs.jam_layout.Layout.{conference_of}
use Rattle.jam_base.specs.jam_layout.Outlines.{outline}
use Rattle.jam_base.specs.jam_layout.Valid.{IsConference}
use Rattle.jam_base.specs.jam_layout.declared.conference.ConferenceContents.{ConferenceContents}
use Rattle.jam_base.specs.jam_layout.declared.files.BaseFiles.{BaseFiles}
use Rattle.jam_base.specs.jam_layout.declared.shape.Shape.{Shape}
use Rattle.jam_records.specs.declared.damage.Damage.{Damage}
use Rattle.board_ledger.specs.setup_file.declared.conference.Conference.{Conference as SetupConference}
use Rattle.board_layout.specs.Board.{conferences_in, shape_of, shapes_from, shapes_in, shapes_of}
use Rattle.board_layout.specs.Damage.{conferences_of}
use Rattle.board_layout.specs.Layout.{files_in, layouts, AreAt}
use Rattle.board_layout.specs.Rules.{AreOutlinesOf, IsOutlineOf, ReadSo}
use Rattle.board_layout.proofs.BasePlaces.{IsBase, layouts_in, one_more_at, zipped}

-- these bases were read, and the conferences from this place on are left
pub record BasesRead (tells : Bool) (l : Ledger) (place : ℕ) (left : List SetupConference) (files : HostFiles) (bases : List Contents) : Type 0 where
  pub count : length bases ≡ place
  pub shapes : shapes_in bases ++ shapes_from l place left ≡ shapes_of l
  pub conferences : All IsBase bases
  pub read : IsTrue tells → with_front (conferences_in bases) (conferences_of (shapes_from l place left) files) ≡ conferences_of (shapes_of l) files
  pub layout : IsTrue tells → AreAt 0 (map files_in bases) files

module _ (tells : Bool) (l : Ledger) (place : ℕ) (c : SetupConference) (left : List SetupConference) (files : HostFiles) (bases : List Contents) (so_far : BasesRead tells l place (c ∷ left) files bases) where
  pub bases_more : (b : Contents) → b.shape ≡ shape_of l place c.kind → IsConference b.shape b.conference
      → (IsTrue tells → conference_of (shape_of l place c.kind) (files_of_place place files) ≡ Ok b.conference) → (IsTrue tells → files_of_place place files ≡ files_in b)
      → BasesRead tells l (place + 1) left files (bases ++ b ∷ [])
  bases_more b shape ok read laid =
      let rest : List Shape = shapes_from l (place + 1) left in
      let shapes : shapes_in (bases ++ b ∷ []) ≡ shapes_in bases ++ shape_of l place c.kind ∷ [] = map-append (λ (x : Contents). x.shape) bases (b ∷ []) ∙ ap (λ (s : Shape). shapes_in bases ++ s ∷ []) shape in
      let conferences : conferences_in (bases ++ b ∷ []) ≡ conferences_in bases ++ b.conference ∷ [] = map-append (λ (x : Contents). x.conference) bases (b ∷ []) in
      let at : 0 + length (map files_in bases) ≡ place = omega (arith, length-map bases files_in, so_far.count) in
      record {
        count = omega (arith, length_push bases b, so_far.count);
        shapes = ap (λ (ss : List Shape). ss ++ rest) shapes ∙ (append_assoc (shapes_in bases) (shape_of l place c.kind ∷ []) rest ∙ so_far.shapes);
        conferences = All-push IsBase bases b so_far.conferences ok;
        read = λ told. one_more (conferences_in bases) (conferences_in (bases ++ b ∷ [])) (conferences_of (shapes_from l place (c ∷ left)) files) (conferences_of rest files) (conferences_of (shapes_of l) files)
            (conference_of (shape_of l place c.kind) (files_of_place place files)) b.conference (λ x. x) refl (read told) conferences (so_far.read told);
        layout = λ told. subst (λ (xs : List BaseFiles). AreAt 0 xs files) (sym (map-append files_in bases (b ∷ [])))
            (one_more_at 0 (map files_in bases) (files_in b) files (so_far.layout told) (ap (λ n. files_of_place n files) at ∙ laid told));
      }

  pub bases_fail : (e : Option Damage) → (IsTrue tells → Stops e (conference_of (shape_of l place c.kind) (files_of_place place files))) → IsTrue tells → Stops e (conferences_of (shapes_of l) files)
  bases_fail e failed told =
      one_fails (conferences_in bases) (conferences_of (shapes_from l place (c ∷ left)) files) (conferences_of (shapes_from l (place + 1) left) files) (conferences_of (shapes_of l) files)
      (conference_of (shape_of l place c.kind) (files_of_place place files)) (λ x. x) e refl (failed told) (so_far.read told)

-- the conference at the front of those that are left
pub next_left : (setup : List SetupConference) (place : ℕ) (c : SetupConference) → place < length setup → c ≡ get_or setup place c → drop place setup ≡ c ∷ drop (place + 1) setup
next_left setup place c within is = drop_more setup place c within ∙ ap (λ (x : SetupConference). x ∷ drop (place + 1) setup) (sym is)

module _ (tells : Bool) (l : Ledger) (place : ℕ) (files : HostFiles) (bases : List Contents) (so_far : BasesRead tells l place [] files bases) where
  pub shapes_done : shapes_in bases ≡ shapes_of l
  shapes_done = sym (append-nil (shapes_in bases)) ∙ so_far.shapes

  pub conferences_done : IsTrue tells → conferences_of (shapes_of l) files ≡ Ok (conferences_in bases)
  conferences_done told = sym (so_far.read told) ∙ ap (λ (xs : List ConferenceContents). Ok xs) (append-nil (conferences_in bases))

-- ---- the conferences that were read, whole, of which the bases are the outlines
pub record WholesRead (l : Ledger) (place : ℕ) (left : List SetupConference) (files : HostFiles) (bases : List Contents) : Type 0 where
  pub wholes : List Contents
  pub alike : map outlined wholes ≡ bases
  pub so_far : BasesRead true l place left files wholes

module _ (l : Ledger) (place : ℕ) (c : SetupConference) (left : List SetupConference) (files : HostFiles) (bases : List Contents) (so : WholesRead l place (c ∷ left) files bases) where
  pub wholes_more : (b : Contents) → b.shape ≡ shape_of l place c.kind → ReadSo (IsOutlineOf (files_of_place place files)) b (conference_of (shape_of l place c.kind) (files_of_place place files)) → WholesRead l (place + 1) left files (bases ++ b ∷ [])
  wholes_more b shape read =
      let k : Contents = record { shape = b.shape; conference = read.whole } in
      let own : outlined k ≡ b = λ i. record { shape = b.shape; conference = sym read.holds.alike i } in
      record {
        wholes = so.wholes ++ k ∷ [];
        alike = map-append outlined so.wholes (k ∷ []) ∙ (λ i. so.alike i ++ own i ∷ []);
        so_far = bases_more true l place c left files so.wholes so.so_far k shape read.holds.valid (λ told. read.is_read) (λ told. read.holds.stored);
      }

  pub wholes_fail : (e : Option Damage) → Stops e (conference_of (shape_of l place c.kind) (files_of_place place files)) → Stops e (conferences_of (shapes_of l) files)
  wholes_fail e failed = bases_fail true l place c left files so.wholes so.so_far e (λ told. failed) refl

conferences_outlined : (wholes : List Contents) → conferences_in (map outlined wholes) ≡ map outline (conferences_in wholes)
conferences_outlined [] = refl
conferences_outlined (k ∷ wholes) = ap (λ (cs : List ConferenceContents). outline k.conference ∷ cs) (conferences_outlined wholes)

pub wholes_done : (l : Ledger) (place : ℕ) (files : HostFiles) (bases : List Contents) → WholesRead l place [] files bases → ReadSo (AreOutlinesOf (shapes_of l) files) bases (conferences_of (shapes_of l) files)
wholes_done l place files bases so =
    let shapes : shapes_in so.wholes ≡ shapes_of l = shapes_done true l place files so.wholes so.so_far in
    let same : layouts (shapes_of l) (conferences_in so.wholes) ≡ map files_in so.wholes = ap (λ (ss : List Shape). layouts ss (conferences_in so.wholes)) (sym shapes) ∙ layouts_in so.wholes in
    record {
      whole = conferences_in so.wholes;
      is_read = conferences_done true l place files so.wholes so.so_far refl;
      holds = record {
        alike = sym (ap conferences_in so.alike) ∙ conferences_outlined so.wholes;
        valid = subst (λ (ss : List Shape). AllZip IsConference ss (conferences_in so.wholes)) shapes (zipped so.wholes so.so_far.conferences);
        stored = subst (λ (xs : List BaseFiles). AreAt 0 xs files) (sym same) (so.so_far.layout refl);
      };
    }
