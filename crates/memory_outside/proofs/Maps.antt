-- An ordered map of files, read as the finite map that clauses see.
use Rattle.std.proofs.Common.{◌≡◌, ℕ, List, [], ◌∷◌, ◌++◌, cond, refl, sym, ◌∙◌, ap, Option, Some, None}
use Rattle.std.specs.Prelude.{unwrap_or, is_some}
use Rattle.std.proofs.lemmas.Map.Steps.{set_value_same}
use Rattle.std.specs.BTreeMap as tree
use Rattle.std.specs.BTreeMap.{BTreeMap, is_at}
use Rattle.std.specs.Map.{lookup, set_value}
use Rattle.std.specs.Cmp.{eq_by_cmp_equiv}
use Rattle.std.specs.Cmp.Lexicographic.{slice_cmp, nat_list_cmp_total}
use Rattle.std.specs.Ordering.{nat_cmp, is_eq, eq_by_cmp}
use Rattle.std.specs.FinMap as map
use Rattle.std.specs.FinMap.{find, get-from_entries, get-insert, same_map, nat_cmp-IsAntisymmetric, slice_cmp-IsAntisymmetric}
use Rattle.door_outside.specs.Shelf.{ShelfFiles, held}

abbrev pub files_of : BTreeMap (List ℕ) (List ℕ) → ShelfFiles
files_of m = map.from_entries m.entries

found : (es : List (List ℕ × List ℕ)) (q : List ℕ) → find (slice_cmp nat_cmp) q es ≡ lookup (is_at (slice_cmp nat_cmp q)) es
found [] q = refl
found (e ∷ es) q = ap (cond (is_eq (slice_cmp nat_cmp q e.0)) (Some e.1)) (found es q)

pub get-files_of : (m : BTreeMap (List ℕ) (List ℕ)) (q : List ℕ) → map.get (files_of m) q ≡ tree.get (slice_cmp nat_cmp) m q
get-files_of m q = get-from_entries nat_list_cmp_total m.entries q ∙ found m.entries q

pub files_of_updated : (m n : BTreeMap (List ℕ) (List ℕ)) (k v : List ℕ) → tree.UpdatesBy (slice_cmp nat_cmp) (slice_cmp nat_cmp k) m n (Some v)
    → files_of n ≡ map.insert (files_of m) k v
files_of_updated m n k v is = same_map nat_list_cmp_total (slice_cmp-IsAntisymmetric nat_cmp-IsAntisymmetric) _ _ (λ q.
    get-files_of n q
    ∙ is.0 q
    ∙ ap (λ b. cond b (Some v) (tree.get (slice_cmp nat_cmp) m q)) ((eq_by_cmp_equiv nat_list_cmp_total).symm k q)
    ∙ ap (cond (eq_by_cmp (slice_cmp nat_cmp) q k) (Some v)) (sym (get-files_of m q))
    ∙ sym (get-insert nat_list_cmp_total (files_of m) k v q))

-- an entry that was put in, where the map before is shown as some files
pub put_in : (m n : BTreeMap (List ℕ) (List ℕ)) (key value name bytes : List ℕ) (files : ShelfFiles) → files_of m ≡ files → key ≡ name → value ≡ bytes
    → tree.UpdatesBy (slice_cmp nat_cmp) (slice_cmp nat_cmp key) m n (Some value) → files_of n ≡ map.insert files name bytes
put_in m n key value name bytes files shown named same is = files_of_updated m n key value is ∙ (λ i. map.insert (shown i) (named i) (same i))

-- a value that was added to where it stands
pub added_in : (m n : BTreeMap (List ℕ) (List ℕ)) (name old new bytes : List ℕ) (files : ShelfFiles) → files_of m ≡ files → Some old ≡ tree.get (slice_cmp nat_cmp) m name → new ≡ old ++ bytes
    → tree.WritesThrough (slice_cmp nat_cmp) (slice_cmp nat_cmp name) m new n → files_of n ≡ map.insert files name (unwrap_or (held files name) [] ++ bytes)
added_in m n name old new bytes files shown here is writes =
    files_of_updated m n name new (writes.3 (ap is_some (sym here)))
    ∙ (λ i. map.insert (shown i) name (is i))
    ∙ ap (λ (o : Option (List ℕ)). map.insert files name (unwrap_or o [] ++ bytes)) (here ∙ sym (get-files_of m name) ∙ ap (λ (fs : ShelfFiles). held fs name) shown)

-- a value that was left as it stands
pub kept_in : (m n : BTreeMap (List ℕ) (List ℕ)) (name old new : List ℕ) (files : ShelfFiles) → files_of m ≡ files → Some old ≡ tree.get (slice_cmp nat_cmp) m name → new ≡ old
    → tree.WritesThrough (slice_cmp nat_cmp) (slice_cmp nat_cmp name) m new n → files_of n ≡ files
kept_in m n name old new files shown here is writes =
    ap map.from_entries (writes.0 ∙ ap (set_value (is_at (slice_cmp nat_cmp name)) m.entries) is ∙ set_value_same _ m.entries old (sym here)) ∙ shown

-- bytes that begin a file
pub begun_in : (m n : BTreeMap (List ℕ) (List ℕ)) (name bytes : List ℕ) (files : ShelfFiles) → files_of m ≡ files → n ≡ m → None ≡ tree.get (slice_cmp nat_cmp) m name
    → map.insert (files_of n) name bytes ≡ map.insert files name (unwrap_or (held files name) [] ++ bytes)
begun_in m n name bytes files shown same none =
    (λ i. map.insert ((ap files_of same ∙ shown) i) name bytes)
    ∙ ap (λ (o : Option (List ℕ)). map.insert files name (unwrap_or o [] ++ bytes)) (none ∙ sym (get-files_of m name) ∙ ap (λ (fs : ShelfFiles). held fs name) shown)
