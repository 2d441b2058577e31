-- Combinators, each read from a place of the tokens on, after the grammars of Selectors Level 3, section 10.1, and of relative
-- selectors in Selectors Level 4, section 3.1.
use Rattle.std.specs.Prelude.{ℕ, ◌+◌, nat_lt, if◌then◌else◌, List, Option, Some, None}
use Rattle.css_selectors.specs.declared.selector.Link.{Link}
use Rattle.css_selectors.specs.declared.selector.Link.TheVariants as link
use Rattle.css_lexer.specs.declared.tokens.CssKind.TheVariants as kind
use Rattle.css_lexer.specs.declared.tokens.CssToken.{CssToken}
use Rattle.css_parser.specs.declared.pieces.LinkRead.{LinkRead}
use Rattle.css_parser.specs.Places.{stands, skip}

abbrev pub linked : List CssToken → Link → ℕ → LinkRead
linked ts l i = record { link = l; end = skip ts i }

-- combinator: S, then `>`, `+` or `~` and S, or else one Space at least
unfoldable pub combinator : List CssToken → ℕ → Option LinkRead
combinator ts i =
    let j = skip ts i in
    if stands kind.Greater ts j then Some (linked ts link.Child (j + 1))
    else (if stands kind.Plus ts j then Some (linked ts link.Next (j + 1))
    else (if stands kind.Tilde ts j then Some (linked ts link.Later (j + 1))
    else (if nat_lt i j then Some (linked ts link.Descendant i)
    else None)))

-- the link of a relative's first part, and the place of that part: behind `>`, `+` or `~` and S, or else Descendant and i itself
unfoldable pub sign : List CssToken → ℕ → LinkRead
sign ts i =
    if stands kind.Greater ts i then linked ts link.Child (i + 1)
    else (if stands kind.Plus ts i then linked ts link.Next (i + 1)
    else (if stands kind.Tilde ts i then linked ts link.Later (i + 1)
    else record { link = link.Descendant; end = i }))
