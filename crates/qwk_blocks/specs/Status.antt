-- The status bytes of a message, by Lee's QWK Mail Packet File Layout of 1992.
use Rattle.std.specs.Prelude.{ℕ, Bool, ◌==◌, ◌||◌}

-- `+` and `*`
abbrev pub private_status : ℕ → Bool
private_status status = status == 43 || status == 42

-- `~` and `` ` ``
abbrev pub comment_status : ℕ → Bool
comment_status status = status == 126 || status == 96

-- `%`, `^`, `!`, `#` and `$`
abbrev pub password_status : ℕ → Bool
password_status status = status == 37 || (status == 94 || (status == 33 || (status == 35 || status == 36)))
