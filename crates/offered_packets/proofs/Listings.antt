-- The conferences whose member a user is, one by one.
use Rattle.std.proofs.Common.{◌≡◌, ℕ, ◌+◌, ◌<◌, Bool, true, false, cond, List, [], ◌∷◌, ◌++◌, length, map, get_or, take, sym, ap, ◌∙◌, arith}
use Rattle.std.specs.List.{filter, enumerate_from}
use Rattle.std.proofs.lemmas.Bool.{cond-true, cond-false}
use Rattle.std.proofs.lemmas.List.{map-append, append-nil}
use Rattle.std.proofs.lemmas.List.Elements.{filter-append}
use Rattle.board_ledger.specs.Users.{is_member}
use Rattle.board_ledger.specs.declared.user.User.{User}
use Rattle.board_ledger.specs.setup_file.declared.conference.Conference.{Conference}
use Rattle.offered_packets.specs.Control.{listed}
use Rattle.offered_packets.proofs.Packets.{enumerate_next}

abbrev pub is_joined : User → ℕ × Conference → Bool
is_joined u c = is_member u c.0

abbrev pub entry : ℕ × Conference → ℕ × List ℕ
entry c = (c.1.number, c.1.name)

entries_more : (conferences : List Conference) (u : User) (c : Conference) (i : ℕ) → i < length conferences → c ≡ get_or conferences i c
    → listed (take (i + 1) conferences) u ≡ listed (take i conferences) u ++ map entry (cond (is_member u i) ((i, c) ∷ []) [])
entries_more conferences u c i within is =
    let front : List (ℕ × Conference) = enumerate_from 0 (take i conferences) in
    ap (λ (xs : List (ℕ × Conference)). map entry (filter (is_joined u) xs)) (enumerate_next 0 i i conferences c within is (omega arith))
    ∙ (ap (map entry) (filter-append (is_joined u) front ((i, c) ∷ [])) ∙ map-append entry (filter (is_joined u) front) (cond (is_member u i) ((i, c) ∷ []) []))

pub joined_more : (conferences : List Conference) (u : User) (c : Conference) (i : ℕ) (old new : List (ℕ × List ℕ)) → i < length conferences → c ≡ get_or conferences i c → old ≡ listed (take i conferences) u
    → is_member u i ≡ true → new ≡ old ++ (c.number, c.name) ∷ [] → new ≡ listed (take (i + 1) conferences) u
joined_more conferences u c i old new within is so_far joined then =
    let one : cond (is_member u i) ((i, c) ∷ []) [] ≡ (i, c) ∷ [] = cond-true (is_member u i) ((i, c) ∷ []) [] joined in
    then ∙ (ap (λ (xs : List (ℕ × List ℕ)). xs ++ (c.number, c.name) ∷ []) so_far
    ∙ sym (entries_more conferences u c i within is ∙ ap (λ (xs : List (ℕ × Conference)). listed (take i conferences) u ++ map entry xs) one))

pub joined_same : (conferences : List Conference) (u : User) (c : Conference) (i : ℕ) (old : List (ℕ × List ℕ)) → i < length conferences → c ≡ get_or conferences i c → old ≡ listed (take i conferences) u
    → is_member u i ≡ false → old ≡ listed (take (i + 1) conferences) u
joined_same conferences u c i old within is so_far apart =
    let none : cond (is_member u i) ((i, c) ∷ []) [] ≡ [] = cond-false (is_member u i) ((i, c) ∷ []) [] apart in
    so_far ∙ sym (entries_more conferences u c i within is ∙ (ap (λ (xs : List (ℕ × Conference)). listed (take i conferences) u ++ map entry xs) none ∙ append-nil (listed (take i conferences) u)))
