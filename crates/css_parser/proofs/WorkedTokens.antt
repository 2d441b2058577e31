-- The tokens of some selectors, by computing.
use Rattle.std.proofs.Common.{refl, [], ◌∷◌, List, arith, codes}
use Rattle.std.specs.Str.{chars}
use Rattle.css_lexer.specs.declared.tokens.CssKind.TheVariants as kind
use Rattle.css_lexer.specs.declared.tokens.CssToken.{CssToken}
use Rattle.css_lexer.specs.Tokens.{token, Lexes}

-- h1 + p
abbrev pub next_tokens : List CssToken
next_tokens = token kind.Ident 0 2 (codes "h1") ∷ token kind.Space 2 3 [] ∷ token kind.Plus 3 4 [] ∷ token kind.Space 4 5 [] ∷ token kind.Ident 5 6 (codes "p") ∷ []

pub next_lexes : Lexes (codes "h1 + p") next_tokens
unfolding chars
next_lexes = record {
  fits = omega arith;
  spelled = (
    ([], (refl, refl)),
    (token kind.Ident 0 2 (codes "h1"), (2, codes "h1", record { places = 0 ∷ []; steps = (refl, omega arith, (refl, refl)); spelled = refl }, refl), refl),
    (
      ([], (refl, refl)),
      refl,
      (
        ([], (refl, refl)),
        refl,
        (
          ([], (refl, refl)),
          refl,
          (
            ([], (refl, refl)),
            (token kind.Ident 5 6 (codes "p"), (6, codes "p", record { places = 5 ∷ []; steps = (refl, omega arith, (refl, refl)); spelled = refl }, refl), refl),
            ([], (refl, refl)),
          ),
        ),
      ),
    ),
  );
}

-- UL > li a, b
abbrev pub nested_tokens : List CssToken
nested_tokens = token kind.Ident 0 2 (codes "UL") ∷ token kind.Space 2 3 [] ∷ token kind.Greater 3 4 [] ∷ token kind.Space 4 5 [] ∷ token kind.Ident 5 7 (codes "li") ∷ token kind.Space 7 8 [] ∷ token kind.Ident 8 9 (codes "a") ∷ token kind.Comma 9 10 [] ∷ token kind.Space 10 11 [] ∷ token kind.Ident 11 12 (codes "b") ∷ []

pub nested_lexes : Lexes (codes "UL > li a, b") nested_tokens
unfolding chars
nested_lexes = record {
  fits = omega arith;
  spelled = (
    ([], (refl, refl)),
    (token kind.Ident 0 2 (codes "UL"), (2, codes "UL", record { places = 0 ∷ []; steps = (refl, omega arith, (refl, refl)); spelled = refl }, refl), refl),
    (
      ([], (refl, refl)),
      refl,
      (
        ([], (refl, refl)),
        refl,
        (
          ([], (refl, refl)),
          refl,
          (
            ([], (refl, refl)),
            (token kind.Ident 5 7 (codes "li"), (7, codes "li", record { places = 5 ∷ []; steps = (refl, omega arith, (refl, refl)); spelled = refl }, refl), refl),
            (
              ([], (refl, refl)),
              refl,
              (
                ([], (refl, refl)),
                (token kind.Ident 8 9 (codes "a"), (9, codes "a", record { places = 8 ∷ []; steps = (refl, omega arith, (refl, refl)); spelled = refl }, refl), refl),
                (
                  ([], (refl, refl)),
                  refl,
                  (
                    ([], (refl, refl)),
                    refl,
                    (
                      ([], (refl, refl)),
                      (token kind.Ident 11 12 (codes "b"), (12, codes "b", record { places = 11 ∷ []; steps = (refl, omega arith, (refl, refl)); spelled = refl }, refl), refl),
                      ([], (refl, refl)),
                    ),
                  ),
                ),
              ),
            ),
          ),
        ),
      ),
    ),
  );
}

-- h1 ~ p#x.y::text
abbrev pub later_tokens : List CssToken
later_tokens = token kind.Ident 0 2 (codes "h1") ∷ token kind.Space 2 3 [] ∷ token kind.Tilde 3 4 [] ∷ token kind.Space 4 5 [] ∷ token kind.Ident 5 6 (codes "p") ∷ token kind.Hash 6 8 (codes "x") ∷ token kind.Dot 8 9 [] ∷ token kind.Ident 9 10 (codes "y") ∷ token kind.DoubleColon 10 12 [] ∷ token kind.Ident 12 16 (codes "text") ∷ []

pub later_lexes : Lexes (codes "h1 ~ p#x.y::text") later_tokens
unfolding chars
later_lexes = record {
  fits = omega arith;
  spelled = (
    ([], (refl, refl)),
    (token kind.Ident 0 2 (codes "h1"), (2, codes "h1", record { places = 0 ∷ []; steps = (refl, omega arith, (refl, refl)); spelled = refl }, refl), refl),
    (
      ([], (refl, refl)),
      refl,
      (
        ([], (refl, refl)),
        refl,
        (
          ([], (refl, refl)),
          refl,
          (
            ([], (refl, refl)),
            (token kind.Ident 5 6 (codes "p"), (6, codes "p", record { places = 5 ∷ []; steps = (refl, omega arith, (refl, refl)); spelled = refl }, refl), refl),
            (
              ([], (refl, refl)),
              (8, codes "x", record { places = 7 ∷ []; steps = (refl, omega arith, (refl, refl)); spelled = refl }, refl),
              (
                ([], (refl, refl)),
                refl,
                (
                  ([], (refl, refl)),
                  (token kind.Ident 9 10 (codes "y"), (10, codes "y", record { places = 9 ∷ []; steps = (refl, omega arith, (refl, refl)); spelled = refl }, refl), refl),
                  (
                    ([], (refl, refl)),
                    refl,
                    (
                      ([], (refl, refl)),
                      (token kind.Ident 12 16 (codes "text"), (16, codes "text", record { places = 12 ∷ []; steps = (refl, omega arith, (refl, refl)); spelled = refl }, refl), refl),
                      ([], (refl, refl)),
                    ),
                  ),
                ),
              ),
            ),
          ),
        ),
      ),
    ),
  );
}

-- a[href^='/p/']::attr(href)
abbrev pub begun_tokens : List CssToken
begun_tokens = token kind.Ident 0 1 (codes "a") ∷ token kind.OpenSquare 1 2 [] ∷ token kind.Ident 2 6 (codes "href") ∷ token kind.PrefixMatch 6 8 [] ∷ token kind.Quoted 8 13 (codes "/p/") ∷ token kind.CloseSquare 13 14 [] ∷ token kind.DoubleColon 14 16 [] ∷ token kind.Function 16 21 (codes "attr") ∷ token kind.Ident 21 25 (codes "href") ∷ token kind.CloseRound 25 26 [] ∷ []

pub begun_lexes : Lexes (codes "a[href^='/p/']::attr(href)") begun_tokens
unfolding chars
begun_lexes = record {
  fits = omega arith;
  spelled = (
    ([], (refl, refl)),
    (token kind.Ident 0 1 (codes "a"), (1, codes "a", record { places = 0 ∷ []; steps = (refl, omega arith, (refl, refl)); spelled = refl }, refl), refl),
    (
      ([], (refl, refl)),
      refl,
      (
        ([], (refl, refl)),
        (token kind.Ident 2 6 (codes "href"), (6, codes "href", record { places = 2 ∷ []; steps = (refl, omega arith, (refl, refl)); spelled = refl }, refl), refl),
        (
          ([], (refl, refl)),
          refl,
          (
            ([], (refl, refl)),
            (12, codes "/p/", record { places = 9 ∷ []; steps = (refl, omega arith, (refl, refl)); spelled = refl }, refl),
            (
              ([], (refl, refl)),
              refl,
              (
                ([], (refl, refl)),
                refl,
                (
                  ([], (refl, refl)),
                  (token kind.Function 16 21 (codes "attr"), (20, codes "attr", record { places = 16 ∷ []; steps = (refl, omega arith, (refl, refl)); spelled = refl }, refl), refl),
                  (
                    ([], (refl, refl)),
                    (token kind.Ident 21 25 (codes "href"), (25, codes "href", record { places = 21 ∷ []; steps = (refl, omega arith, (refl, refl)); spelled = refl }, refl), refl),
                    (
                      ([], (refl, refl)),
                      refl,
                      ([], (refl, refl)),
                    ),
                  ),
                ),
              ),
            ),
          ),
        ),
      ),
    ),
  );
}

-- li:nth-child(-n+3)
abbrev pub places_tokens : List CssToken
places_tokens = token kind.Ident 0 2 (codes "li") ∷ token kind.Colon 2 3 [] ∷ token kind.Function 3 13 (codes "nth-child") ∷ token kind.Ident 13 15 (codes "-n") ∷ token kind.Plus 15 16 [] ∷ token kind.Digits 16 17 [] ∷ token kind.CloseRound 17 18 [] ∷ []

pub places_lexes : Lexes (codes "li:nth-child(-n+3)") places_tokens
unfolding chars
places_lexes = record {
  fits = omega arith;
  spelled = (
    ([], (refl, refl)),
    (token kind.Ident 0 2 (codes "li"), (2, codes "li", record { places = 0 ∷ []; steps = (refl, omega arith, (refl, refl)); spelled = refl }, refl), refl),
    (
      ([], (refl, refl)),
      refl,
      (
        ([], (refl, refl)),
        (token kind.Function 3 13 (codes "nth-child"), (12, codes "nth-child", record { places = 3 ∷ []; steps = (refl, omega arith, (refl, refl)); spelled = refl }, refl), refl),
        (
          ([], (refl, refl)),
          (token kind.Ident 13 15 (codes "-n"), (15, codes "-n", record { places = 13 ∷ []; steps = (refl, omega arith, (refl, refl)); spelled = refl }, refl), refl),
          (
            ([], (refl, refl)),
            refl,
            (
              ([], (refl, refl)),
              refl,
              (
                ([], (refl, refl)),
                refl,
                ([], (refl, refl)),
              ),
            ),
          ),
        ),
      ),
    ),
  );
}

-- input:checked
abbrev pub ticked_tokens : List CssToken
ticked_tokens = token kind.Ident 0 5 (codes "input") ∷ token kind.Colon 5 6 [] ∷ token kind.Ident 6 13 (codes "checked") ∷ []

pub ticked_lexes : Lexes (codes "input:checked") ticked_tokens
unfolding chars
ticked_lexes = record {
  fits = omega arith;
  spelled = (
    ([], (refl, refl)),
    (token kind.Ident 0 5 (codes "input"), (5, codes "input", record { places = 0 ∷ []; steps = (refl, omega arith, (refl, refl)); spelled = refl }, refl), refl),
    (
      ([], (refl, refl)),
      refl,
      (
        ([], (refl, refl)),
        (token kind.Ident 6 13 (codes "checked"), (13, codes "checked", record { places = 6 ∷ []; steps = (refl, omega arith, (refl, refl)); spelled = refl }, refl), refl),
        ([], (refl, refl)),
      ),
    ),
  );
}
