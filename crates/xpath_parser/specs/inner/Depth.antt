-- What serves the contract of the code that counts brackets.
use Rattle.std.specs.Prelude.{ℕ, ◌+◌, ◌≤◌, Bool, true, false, List, length, take, count_by}
use Rattle.xpath_lexer.specs.Tokens.{Lexeme}
use Rattle.xpath_parser.specs.Terms.{is_open, is_close, most_open}

abbrev pub one : Bool → ℕ
one true = 1
one false = 0

-- with so many brackets opened and closed before, at no token more are open than may be
abbrev pub ShallowFrom : ℕ → ℕ → List Lexeme → Type 0
ShallowFrom o c ws = (i : ℕ) → i ≤ length ws → o + count_by is_open (take i ws) ≤ c + count_by is_close (take i ws) + most_open
