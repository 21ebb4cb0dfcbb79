-- Any data files stand for exactly one state of the board.
use Rattle.std.proofs.Common.{◌≡◌, ◌⊎◌, inl, inr, ⊎_elim, ℕ, zero, suc, ◌<◌, List, [], ◌∷◌, Bool, true, false, Result, Ok, Err, refl, sym, ◌∙◌, ap, subst, arith}
use Rattle.std.specs.Prelude.{All, IsTrue}
use Rattle.std.proofs.lemmas.Bool.{cases_eq, cases_lt, and_parts, ltb-true, true≢false}
use Rattle.std.proofs.lemmas.List.Elements.{All-nil, All-cons, All-head, All-tail}
use Rattle.byte_lists.specs.Byte.{IsByte}
use Rattle.door_outside.specs.File.{is_data_file}
use Rattle.intent_journal.specs.Patches.{HostFiles, data_files}
use Rattle.jam_records.specs.declared.damage.Damage.{Damage}
use Rattle.board_layout.specs.Board.{Board}
use Rattle.board_layout.specs.Damage.{board_of}
use Rattle.board_layout.specs.Layout.{AreFileBytes, AreEmpty, data_size}
use Rattle.board_layout.specs.OldLayout.{IsStoredIn}
use Rattle.board_layout.specs.Valid.{IsBoard}
use Rattle.board_layout.proofs.BoardLaws.{again, laid_bytes, not_both, not_empty, takes, unique}
use Rattle.board_layout.proofs.SizeLaws.{empty}
use Rattle.cmd_board.specs.State.{State, NotMade, Made, Old, Spoiled, Stores}

-- ---- one at most
pub one_state : (files : HostFiles) (a b : State) → Stores a files → Stores b files → a ≡ b
one_state files NotMade NotMade x y = refl
one_state files NotMade (Made b) x y = absurd (not_empty b files y.0 (inl y.1) x)
one_state files NotMade (Old b) x y = absurd (not_empty b files y.0 (inr y.1) x)
one_state files NotMade (Spoiled held) x y = absurd (y.1.some x)
one_state files (Made a) NotMade x y = absurd (not_empty a files x.0 (inl x.1) y)
one_state files (Made a) (Made b) x y = ap Made (unique a b files x.0 y.0 (inl x.1) (inl y.1))
one_state files (Made a) (Old b) x y = absurd (not_both a b files x.0 y.0 x.1 y.1)
one_state files (Made a) (Spoiled held) x y = absurd (y.1.other a x.0 (inl x.1))
one_state files (Old a) NotMade x y = absurd (not_empty a files x.0 (inr x.1) y)
one_state files (Old a) (Made b) x y = absurd (not_both b a files y.0 x.0 y.1 x.1)
one_state files (Old a) (Old b) x y = ap Old (unique a b files x.0 y.0 (inr x.1) (inr y.1))
one_state files (Old a) (Spoiled held) x y = absurd (y.1.other a x.0 (inr x.1))
one_state files (Spoiled held) NotMade x y = absurd (x.1.some y)
one_state files (Spoiled held) (Made b) x y = absurd (x.1.other b y.0 (inl y.1))
one_state files (Spoiled held) (Old b) x y = absurd (x.1.other b y.0 (inr y.1))
one_state files (Spoiled held) (Spoiled other) x y = ap Spoiled (x.0 ∙ sym y.0)

-- ---- one at least
are_bytes : (text : List ℕ) → All IsByte text ⊎ (¬ All IsByte text)
are_bytes [] = inl (All-nil IsByte)
are_bytes (b ∷ text) = elim (cases_lt b 256) [
  | inl small ↦ ⊎_elim (λ all. inl (All-cons IsByte b text small all)) (λ some. inr (λ all. some (All-tail IsByte b text all))) (are_bytes text)
  | inr great ↦ inr (λ all. let small : b < 256 = All-head IsByte b text all in absurd (omega (arith, small, great)))
]

-- each data file with a number below this one is bytes
abbrev BytesBelow : ℕ → HostFiles → Type 0
BytesBelow count files = (file : ℕ) → file < count → IsTrue (is_data_file file) → All IsByte (files file)

bytes_below : (count : ℕ) (files : HostFiles) → BytesBelow count files ⊎ (¬ AreFileBytes files)
bytes_below zero files = inl (λ file below. absurd (omega (arith, below)))
bytes_below (suc count) files = ⊎_elim (λ front. last front (is_data_file count) refl (are_bytes (files count))) (λ some. inr some) (bytes_below count files)
  where
    last : BytesBelow count files → (held : Bool) → is_data_file count ≡ held → All IsByte (files count) ⊎ (¬ All IsByte (files count)) → BytesBelow (suc count) files ⊎ (¬ AreFileBytes files)
    last front false other_file bytes = inl (λ file below is. elim (cases_eq file count) [
      | inl same ↦ absurd (true≢false (sym (subst (λ n. IsTrue (is_data_file n)) same is) ∙ other_file))
      | inr other ↦ front file (omega (arith, below, other)) is
    ])
    last front true is_file (inl bytes) = inl (λ file below is. elim (cases_eq file count) [
      | inl same ↦ subst (λ n. All IsByte (files n)) (sym same) bytes
      | inr other ↦ front file (omega (arith, below, other)) is
    ])
    last front true is_file (inr some) = inr (λ all. some (all count is_file))

below_all : (file : ℕ) → IsTrue (is_data_file file) → file < 258
below_all file is = ltb-true file 258 (and_parts _ _ is).0

all_bytes : (files : HostFiles) → AreFileBytes files ⊎ (¬ AreFileBytes files)
all_bytes files = ⊎_elim (λ front. inl (λ file is. front file (below_all file is) is)) (λ some. inr some) (bytes_below 258 files)

-- a board in files of either version
in_version : (b : Board) (files : HostFiles) → IsBoard b × IsStoredIn b files → (state : State) × Stores state files
in_version b files (ok, inl laid) = (Made b, (ok, laid))
in_version b files (ok, inr laid) = (Old b, (ok, laid))

-- the board of files that aren't all empty, where they are bytes
read_state : (files : HostFiles) → AreFileBytes files → ¬ AreEmpty files → (read : Result Board Damage) → board_of files ≡ read → (state : State) × Stores state files
read_state files bytes some (Ok b) is = in_version b files (takes files b bytes is)
read_state files bytes some (Err d) is = (
  Spoiled (data_files files),
  (
    refl,
    record {
      some = some;
      other = λ b ok laid. let never : Err d ≡ Ok b = sym is ∙ again b files ok laid in absurd (cc never);
    },
  ),
)

some_state_of : (files : HostFiles) → ¬ AreEmpty files → AreFileBytes files ⊎ (¬ AreFileBytes files) → (state : State) × Stores state files
some_state_of files some (inl bytes) = read_state files bytes some (board_of files) refl
some_state_of files some (inr other) = (Spoiled (data_files files), (refl, record { some = some; other = λ b ok laid. other (laid_bytes b files ok laid) }))

pub some_state : (files : HostFiles) → (state : State) × Stores state files
some_state files = elim (cases_eq (data_size files) 0) [
  | inl none ↦ (NotMade, (empty files).0 none)
  | inr some ↦ some_state_of files (λ none. some ((empty files).1 none)) (all_bytes files)
]
