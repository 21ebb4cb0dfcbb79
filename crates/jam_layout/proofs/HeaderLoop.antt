-- Reading headers one after the other, as a loop does.
use Rattle.std.proofs.Common.{◌≡◌, ℕ, ◌<◌, List, length, eqb, Bool, false, Ok, ap, arith}
use Rattle.std.proofs.lemmas.Bool.Decides.{nat_tests}
use Rattle.jam_layout.specs.declared.error.BaseError.{BaseError}
use Rattle.jam_layout.specs.declared.entry.HeaderEntry.{HeaderEntry}
use Rattle.jam_layout.specs.declared.entry.Front.{Front}
use Rattle.damage_rules.specs.Rules.{◌>>=◌}
use Rattle.jam_layout.specs.Rules.{damage_of_base, BaseFails}
use Rattle.damage_rules.specs.Walk.{walk}
use Rattle.jam_layout.specs.Headers.{header_at, entries_at, start}
use Rattle.jam_records.specs.declared.message.Kind.{Kind}
use Rattle.damage_rules.proofs.KeptRules.{step_fails}
use Rattle.damage_rules.proofs.RecordWalks.{walk_behind, ends, is_done}

pub headers_fail : (place : ℕ) (kind : Kind) (front : List HeaderEntry) (f : Front) (rest bytes : List ℕ) (e : BaseError) → 0 < length rest → BaseFails e (header_at place kind f rest)
    → walk_behind front (walk (header_at place kind) f rest) ≡ walk (header_at place kind) start bytes → BaseFails e (entries_at place kind bytes)
unfolding entries_at
headers_fail place kind front f rest bytes e some h so_far = step_fails (damage_of_base e) (walk (header_at place kind) start bytes) (λ found. Ok found.0) (ends (header_at place kind) f rest front (damage_of_base e) (walk (header_at place kind) start bytes) some h so_far)

pub headers_end : (place : ℕ) (kind : Kind) (front : List HeaderEntry) (f : Front) (rest bytes : List ℕ) → length rest ≡ 0
    → walk_behind front (walk (header_at place kind) f rest) ≡ walk (header_at place kind) start bytes → entries_at place kind bytes ≡ Ok front
unfolding entries_at
headers_end place kind front f rest bytes none so_far = ap (λ r. r >>= λ found. Ok found.0) (is_done (header_at place kind) f rest front (walk (header_at place kind) start bytes) none so_far)

pub not_empty : (bytes : List ℕ) (b : Bool) → b ≡ eqb (length bytes) 0 → b ≡ false → 0 < length bytes
not_empty bytes b e f = grind (arith, nat_tests)
