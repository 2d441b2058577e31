-- Signs that stand in a list of tokens.
use Rattle.std.proofs.Common.{◌≡◌, ℕ, zero, suc, ◌+◌, ◌-◌, ◌<◌, false, List, [], ◌∷◌, ◌++◌, length, take, drop, flat_map, refl, ◌∙◌, ap, subst, arith, append_assoc, length-append, cond}
use Rattle.std.proofs.Math.Seq.{take-append_seam}
use Rattle.std.specs.Prelude.{◌==◌, Some, slice_get, slice_range, encode_utf8_all}
use Rattle.std.specs.List.{AllByRecursion}
use Rattle.std.proofs.lemmas.List.{drop_more}
use Rattle.std.proofs.lemmas.Option.{slice_get_within, get_or_from_slice_get}
use Rattle.css_lexer.specs.declared.tokens.CssKind.TheVariants as kind
use Rattle.css_lexer.specs.declared.tokens.CssToken.{CssToken}
use Rattle.css_lexer.specs.Spelled.{Sign, bytes_of, kind_of, value_of, empty_comment, spelled, placed}
use Rattle.css_lexer.specs.Tokens.{token}
use Rattle.css_lexer.proofs.SpelledUnits.{rest_after}
use Rattle.css_parser.specs.Places.{code, code_in, code_at, stands, value_in, value_at, text_at, skip}
use Rattle.css_parser.specs.Simples.{written}
use Rattle.css_parser.proofs.PlaceLemmas.{skip_stop}

-- the token at i is that of the sign
pub record IsAt (text : List ℕ) (ts : List CssToken) (i : ℕ) (s : Sign) : Type 0 where
  pub there : CssToken
  pub is_there : slice_get ts i ≡ Some there
  pub has_kind : there.kind ≡ kind_of s
  pub has_value : there.value ≡ value_of s
  pub has_bytes : slice_range text there.from there.to ≡ bytes_of s

-- and so on from i on
abbrev pub AreAt : List ℕ → List CssToken → ℕ → List Sign → Type 0
AreAt text ts i [] = Unit {0}
AreAt text ts i (s ∷ ss) = IsAt text ts i s × AreAt text ts (i + 1) ss

-- the text of a sign as an argument has it
abbrev pub sign_text : Sign → List ℕ
sign_text s = cond (code (kind_of s) == 1) (32 ∷ []) (bytes_of s)

module _ (text : List ℕ) (ts : List CssToken) where
  pub code_is : (i : ℕ) (s : Sign) → IsAt text ts i s → code_at ts i ≡ code (kind_of s)
  unfolding code_at
  code_is i s h = ap code_in h.is_there ∙ ap code h.has_kind

  pub value_is : (i : ℕ) (s : Sign) → IsAt text ts i s → value_at ts i ≡ value_of s
  unfolding value_at
  value_is i s h = ap value_in h.is_there ∙ h.has_value

  pub text_is : (i : ℕ) (s : Sign) → IsAt text ts i s → text_at ts i ≡ encode_utf8_all (value_of s)
  unfolding text_at
  text_is i s h = ap (λ o. encode_utf8_all (value_in o)) h.is_there ∙ ap encode_utf8_all h.has_value

  pub at_within : (i : ℕ) (s : Sign) → IsAt text ts i s → i < length ts
  at_within i s h = slice_get_within ts i h.there h.is_there

  pub moved : (i j : ℕ) (ss : List Sign) → i ≡ j → AreAt text ts i ss → AreAt text ts j ss
  moved i j ss e h = subst (λ n. AreAt text ts n ss) e h

  pub halves : (i : ℕ) (xs ys : List Sign) → AreAt text ts i (xs ++ ys) → AreAt text ts i xs × AreAt text ts (i + length xs) ys
  halves i [] ys h = (tt, moved i (i + 0) ys (omega arith) h)
  halves i (x ∷ xs) ys h =
      let rest = halves (i + 1) xs ys h.1 in
      ((h.0, rest.0), moved (i + 1 + length xs) (i + length (x ∷ xs)) ys (omega arith) rest.1)

  -- white space is passed over, and nothing else
  pub no_skip : (i : ℕ) (s : Sign) → IsAt text ts i s → (code (kind_of s) == 1) ≡ false → skip ts i ≡ i
  no_skip i s h other = skip_stop ts i (ap (λ n. n == 1) (code_is i s h) ∙ other)

  written_is : (i : ℕ) (s : Sign) (h : IsAt text ts i s) → written text h.there ≡ sign_text s
  written_is i s h = ap (λ k. cond (code k == 1) (32 ∷ []) (slice_range text h.there.from h.there.to)) h.has_kind ∙ ap (λ b. cond (code (kind_of s) == 1) (32 ∷ []) b) h.has_bytes

  pub written_there : (i : ℕ) (ss : List Sign) → AreAt text ts i ss → flat_map (written text) (take (length ss) (drop i ts)) ≡ flat_map sign_text ss
  written_there i [] h = refl
  written_there i (s ∷ ss) h =
      let first : drop i ts ≡ h.0.there ∷ drop (i + 1) ts =
      drop_more ts i h.0.there (at_within i s h.0) ∙ ap (λ t. t ∷ drop (i + 1) ts) (get_or_from_slice_get ts i h.0.there h.0.there h.0.is_there) in
      ap (λ us. flat_map (written text) (take (length (s ∷ ss)) us)) first
      ∙ ap (λ v. v ++ flat_map (written text) (take (length ss) (drop (i + 1) ts))) (written_is i s h.0)
      ∙ ap (λ v. sign_text s ++ v) (written_there (i + 1) ss h.1)

-- ---- the tokens of a spelled text

front_get : (front : List CssToken) (t : CssToken) (more : List CssToken) → slice_get (front ++ t ∷ more) (length front) ≡ Some t
front_get [] t more = refl
front_get (f ∷ front) t more = front_get front t more

pub placed_there : (text : List ℕ) (front : List CssToken) (p : ℕ) (ss : List Sign) → drop p text ≡ spelled ss → AreAt text (front ++ placed p ss) (length front) ss
placed_there text front p [] e = tt
placed_there text front p (s ∷ ss) e =
    let t : CssToken = token (kind_of s) p (p + length (bytes_of s)) (value_of s) in
    let more : List CssToken = placed (p + length (bytes_of s) + 4) ss in
    let after = rest_after text (p + length (bytes_of s)) empty_comment (spelled ss) (rest_after text p (bytes_of s) (empty_comment ++ spelled ss) e) in (
      record {
        there = t;
        is_there = front_get front t more;
        has_kind = refl;
        has_value = refl;
        has_bytes = ap (λ n. take n (drop p text)) (let z : p + length (bytes_of s) - p ≡ length (bytes_of s) = omega arith in z)
            ∙ ap (take (length (bytes_of s))) e ∙ take-append_seam (bytes_of s) (empty_comment ++ spelled ss);
      },
      subst (λ us. AreAt text us (length front + 1) ss) (append_assoc front (t ∷ []) more)
          (moved text ((front ++ t ∷ []) ++ more) (length (front ++ t ∷ [])) (length front + 1) ss (omega (arith, length-append front (t ∷ [])))
          (placed_there text (front ++ t ∷ []) (p + length (bytes_of s) + 4) ss after)),
    )

pub placed_length : (p : ℕ) (ss : List Sign) → length (placed p ss) ≡ length ss
placed_length p [] = refl
placed_length p (s ∷ ss) = ap suc (placed_length (p + length (bytes_of s) + 4) ss)

abbrev pub IsNoBar : Sign → Type 0
IsNoBar s = (code (kind_of s) == 23) ≡ false

pub no_bar : (p : ℕ) (ss : List Sign) → AllByRecursion IsNoBar ss → (i : ℕ) → stands kind.Bar (placed p ss) i ≡ false
unfolding code_at
no_bar p [] h i = refl
no_bar p (s ∷ ss) h zero = h.0
no_bar p (s ∷ ss) h (suc i) = no_bar (p + length (bytes_of s) + 4) ss h.1 i
