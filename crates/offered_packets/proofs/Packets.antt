-- The messages of a packet, one by one.
use Rattle.std.proofs.Common.{◌≡◌, ℕ, ◌+◌, ◌<◌, List, [], ◌∷◌, ◌++◌, length, get_or, take, sym, ap, ◌∙◌, arith}
use Rattle.std.specs.Prelude.{Option, filter_map}
use Rattle.std.specs.List.{cons_option, enumerate_from}
use Rattle.std.proofs.lemmas.List.{get_or_default, length-take-le, take_more}
use Rattle.std.proofs.lemmas.List.Elements.{filter_map-append}
use Rattle.board_layout.specs.Board.{Board}
use Rattle.qwk_blocks.specs.declared.message.QwkMessage.{QwkMessage}
use Rattle.offered_packets.specs.Shown.{shown, shown_all}
use Rattle.offered_packets.specs.declared.offered_message.OfferedMessage.{OfferedMessage}

pub enumerate_more : {X : Type 0} (n k : ℕ) (xs : List X) (x : X) → n + length xs ≡ k → enumerate_from n (xs ++ x ∷ []) ≡ enumerate_from n xs ++ (k, x) ∷ []
enumerate_more {X} n k [] x e = let same : n ≡ k = omega arith in ap (λ (j : ℕ). (j, x) ∷ []) same
enumerate_more n k (y ∷ xs) x e = ap (λ zs. (n, y) ∷ zs) (enumerate_more (n + 1) k xs x (omega arith))

-- one item more of a list, with its place
pub enumerate_next : {X : Type 0} (n i k : ℕ) (xs : List X) (x : X) → i < length xs → x ≡ get_or xs i x → n + i ≡ k → enumerate_from n (take (i + 1) xs) ≡ enumerate_from n (take i xs) ++ (k, x) ∷ []
enumerate_next {X} n i k xs x within is e =
    let more : take (i + 1) xs ≡ take i xs ++ x ∷ [] = take_more xs i x within ∙ ap (λ (y : X). take i xs ++ y ∷ []) (sym is) in
    ap (enumerate_from n) more ∙ enumerate_more n k (take i xs) x (omega (arith, length-take-le i xs (omega arith)))

abbrev pub shown_at : Board → ℕ × OfferedMessage → Option QwkMessage
shown_at b m = shown b m.1.place m.1.number m.0

-- one message more, where it is shown and where it isn't
shown_more : (b : Board) (messages : List OfferedMessage) (m : OfferedMessage) (i logical : ℕ) (old : List QwkMessage) (one : Option QwkMessage) → i < length messages → m ≡ get_or messages i m → 1 + i ≡ logical
    → one ≡ shown b m.place m.number logical → old ≡ shown_all b (take i messages) → old ++ cons_option one [] ≡ shown_all b (take (i + 1) messages)
unfolding shown_all
shown_more b messages m i logical old one within is e shows so_far =
    let more : shown_all b (take (i + 1) messages) ≡ shown_all b (take i messages) ++ cons_option (shown b m.place m.number logical) []
    = ap (filter_map (shown_at b)) (enumerate_next 1 i logical messages m within is e) ∙ filter_map-append (shown_at b) (enumerate_from 1 (take i messages)) ((logical, m) ∷ []) in
    ap (λ (xs : List QwkMessage). xs ++ cons_option one []) so_far ∙ (ap (λ (o : Option QwkMessage). shown_all b (take i messages) ++ cons_option o []) shows ∙ sym more)

-- a step of the loop over items, which are the messages
pub shown_next : (b : Board) (messages items : List OfferedMessage) (d : OfferedMessage) (i logical : ℕ) (old : List QwkMessage) (one : Option QwkMessage) → items ≡ messages → i < length items → 1 + i ≡ logical
    → one ≡ shown b (get_or items i d).place (get_or items i d).number logical → old ≡ shown_all b (take i messages) → old ++ cons_option one [] ≡ shown_all b (take (i + 1) messages)
shown_next b messages items d i logical old one same within e shows so_far =
    let m : OfferedMessage = get_or messages i d in
    let long : i < length messages = omega (arith, ap length same) in
    shown_more b messages m i logical old one long (get_or_default messages i d m long) e (shows ∙ ap (λ (xs : List OfferedMessage). shown b (get_or xs i d).place (get_or xs i d).number logical) same) so_far
