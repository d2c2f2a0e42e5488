-- Shares: document 01's opening section.
use Rattle.std.specs.Prelude.{ℕ}

-- 65,536: "a share is a whole number over 65,536"
abbrev pub one : ℕ
one = 65536
