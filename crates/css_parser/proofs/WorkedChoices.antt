-- The tokens of selectors with choices, by computing.
use Rattle.std.proofs.Common.{refl, [], ◌∷◌, List, arith, codes}
use Rattle.std.specs.Str.{chars}
use Rattle.css_lexer.specs.declared.tokens.CssKind.TheVariants as kind
use Rattle.css_lexer.specs.declared.tokens.CssToken.{CssToken}
use Rattle.css_lexer.specs.Tokens.{token, Lexes}

-- p:not(.note)
abbrev pub denied_tokens : List CssToken
denied_tokens = token kind.Ident 0 1 (codes "p") ∷ token kind.Colon 1 2 [] ∷ token kind.Function 2 6 (codes "not") ∷ token kind.Dot 6 7 [] ∷ token kind.Ident 7 11 (codes "note") ∷ token kind.CloseRound 11 12 [] ∷ []

pub denied_lexes : Lexes (codes "p:not(.note)") denied_tokens
unfolding chars
denied_lexes = record {
  fits = omega arith;
  spelled = (
    ([], (refl, refl)),
    (token kind.Ident 0 1 (codes "p"), (1, codes "p", record { places = 0 ∷ []; steps = (refl, omega arith, (refl, refl)); spelled = refl }, refl), refl),
    (
      ([], (refl, refl)),
      refl,
      (
        ([], (refl, refl)),
        (token kind.Function 2 6 (codes "not"), (5, codes "not", record { places = 2 ∷ []; steps = (refl, omega arith, (refl, refl)); spelled = refl }, refl), refl),
        (
          ([], (refl, refl)),
          refl,
          (
            ([], (refl, refl)),
            (token kind.Ident 7 11 (codes "note"), (11, codes "note", record { places = 7 ∷ []; steps = (refl, omega arith, (refl, refl)); spelled = refl }, refl), refl),
            (
              ([], (refl, refl)),
              refl,
              ([], (refl, refl)),
            ),
          ),
        ),
      ),
    ),
  );
}

-- :is(h1, h2) > a
abbrev pub either_tokens : List CssToken
either_tokens = token kind.Colon 0 1 [] ∷ token kind.Function 1 4 (codes "is") ∷ token kind.Ident 4 6 (codes "h1") ∷ token kind.Comma 6 7 [] ∷ token kind.Space 7 8 [] ∷ token kind.Ident 8 10 (codes "h2") ∷ token kind.CloseRound 10 11 [] ∷ token kind.Space 11 12 [] ∷ token kind.Greater 12 13 [] ∷ token kind.Space 13 14 [] ∷ token kind.Ident 14 15 (codes "a") ∷ []

pub either_lexes : Lexes (codes ":is(h1, h2) > a") either_tokens
unfolding chars
either_lexes = record {
  fits = omega arith;
  spelled = (
    ([], (refl, refl)),
    refl,
    (
      ([], (refl, refl)),
      (token kind.Function 1 4 (codes "is"), (3, codes "is", record { places = 1 ∷ []; steps = (refl, omega arith, (refl, refl)); spelled = refl }, refl), refl),
      (
        ([], (refl, refl)),
        (token kind.Ident 4 6 (codes "h1"), (6, codes "h1", record { places = 4 ∷ []; steps = (refl, omega arith, (refl, refl)); spelled = refl }, refl), refl),
        (
          ([], (refl, refl)),
          refl,
          (
            ([], (refl, refl)),
            refl,
            (
              ([], (refl, refl)),
              (token kind.Ident 8 10 (codes "h2"), (10, codes "h2", record { places = 8 ∷ []; steps = (refl, omega arith, (refl, refl)); spelled = refl }, refl), refl),
              (
                ([], (refl, refl)),
                refl,
                (
                  ([], (refl, refl)),
                  refl,
                  (
                    ([], (refl, refl)),
                    refl,
                    (
                      ([], (refl, refl)),
                      refl,
                      (
                        ([], (refl, refl)),
                        (token kind.Ident 14 15 (codes "a"), (15, codes "a", record { places = 14 ∷ []; steps = (refl, omega arith, (refl, refl)); spelled = refl }, refl), refl),
                        ([], (refl, refl)),
                      ),
                    ),
                  ),
                ),
              ),
            ),
          ),
        ),
      ),
    ),
  );
}

-- ul:has(> li.x + li)
abbrev pub ahead_tokens : List CssToken
ahead_tokens = token kind.Ident 0 2 (codes "ul") ∷ token kind.Colon 2 3 [] ∷ token kind.Function 3 7 (codes "has") ∷ token kind.Greater 7 8 [] ∷ token kind.Space 8 9 [] ∷ token kind.Ident 9 11 (codes "li") ∷ token kind.Dot 11 12 [] ∷ token kind.Ident 12 13 (codes "x") ∷ token kind.Space 13 14 [] ∷ token kind.Plus 14 15 [] ∷ token kind.Space 15 16 [] ∷ token kind.Ident 16 18 (codes "li") ∷ token kind.CloseRound 18 19 [] ∷ []

pub ahead_lexes : Lexes (codes "ul:has(> li.x + li)") ahead_tokens
unfolding chars
ahead_lexes = record {
  fits = omega arith;
  spelled = (
    ([], (refl, refl)),
    (token kind.Ident 0 2 (codes "ul"), (2, codes "ul", record { places = 0 ∷ []; steps = (refl, omega arith, (refl, refl)); spelled = refl }, refl), refl),
    (
      ([], (refl, refl)),
      refl,
      (
        ([], (refl, refl)),
        (token kind.Function 3 7 (codes "has"), (6, codes "has", record { places = 3 ∷ []; steps = (refl, omega arith, (refl, refl)); spelled = refl }, refl), refl),
        (
          ([], (refl, refl)),
          refl,
          (
            ([], (refl, refl)),
            refl,
            (
              ([], (refl, refl)),
              (token kind.Ident 9 11 (codes "li"), (11, codes "li", record { places = 9 ∷ []; steps = (refl, omega arith, (refl, refl)); spelled = refl }, refl), refl),
              (
                ([], (refl, refl)),
                refl,
                (
                  ([], (refl, refl)),
                  (token kind.Ident 12 13 (codes "x"), (13, codes "x", record { places = 12 ∷ []; steps = (refl, omega arith, (refl, refl)); spelled = refl }, refl), refl),
                  (
                    ([], (refl, refl)),
                    refl,
                    (
                      ([], (refl, refl)),
                      refl,
                      (
                        ([], (refl, refl)),
                        refl,
                        (
                          ([], (refl, refl)),
                          (token kind.Ident 16 18 (codes "li"), (18, codes "li", record { places = 16 ∷ []; steps = (refl, omega arith, (refl, refl)); spelled = refl }, refl), refl),
                          (
                            ([], (refl, refl)),
                            refl,
                            ([], (refl, refl)),
                          ),
                        ),
                      ),
                    ),
                  ),
                ),
              ),
            ),
          ),
        ),
      ),
    ),
  );
}
