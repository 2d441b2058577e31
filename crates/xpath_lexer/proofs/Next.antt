-- The token at a place of a text.
use Rattle.std.proofs.Common.{◌≡◌, refl, ◌∙◌, ap, subst, ℕ, ◌+◌, ◌-◌, ◌<◌, ◌≤◌, true, length, get_or, take, drop, Some, None, arith, inl, inr, get_or-drop, length-drop, drop-drop, IsUtf8, encode_utf8_all}
use Rattle.std.specs.Prelude.{slice_index}
use Rattle.std.specs.Str.{chars}
use Rattle.std.proofs.lemmas.Bool.{cases_lt}
use Rattle.std.proofs.lemmas.Str.{IsCharBoundary-end, encodes-chars}
use Rattle.text_base.specs.Text.{IsPlace}
use Rattle.text_base.proofs.Boundaries.{place, before_ascii, after_ascii}
use Rattle.xpath_lexer.specs.declared.token.XKind.{XKind}
use Rattle.xpath_lexer.specs.declared.token.XKind.TheVariants as k
use Rattle.xpath_lexer.specs.declared.token.XTok.{XTok}
use Rattle.xpath_lexer.specs.Tokens.{Text, lexeme, token}
use Rattle.xpath_lexer.specs.inner.Sizes.{token_size}
use Rattle.xpath_lexer.specs.Places.{value_bytes}
use Rattle.xpath_lexer.specs.inner.Stands.{IsNext, ValueStands}
use Rattle.xpath_lexer.proofs.Cuts.{Quotes, Sound, token_right}
use Rattle.xpath_lexer.proofs.Extents.{written, cut, is_literal}

pub encode_chars : (bs : Text) → IsUtf8 bs → encode_utf8_all (chars bs) ≡ bs
encode_chars bs u = encodes-chars bs u

-- nothing begins where there is no size
pub no_token : (x : Text) → token_size x ≡ None → token x ≡ None
no_token x h = let r = token_right x in r.is ∙ ap (cut x) h

module _ (text : Text) (utf8 : IsUtf8 text) (at : ℕ) (low : at ≤ length text) (here : IsPlace text at) (kind : XKind) (n : ℕ) (h : token_size (drop at text) ≡ Some (kind, n)) where
  sound : Sound (drop at text) (Some (kind, n))
  sound = let r = token_right (drop at text) in subst (Sound (drop at text)) h r.fits

  pub within : at + n ≤ length text
  within = let f = sound.1 in omega (arith, f.within, length-drop at text)

  pub some : at < at + n
  some = omega (arith, sound.0)

  pub to_place : IsPlace text (at + n)
  to_place = let f = sound.1 in elim f.ends [
    | inl ascii ↦ elim (cases_lt (at + n) (length text)) [
      | inl more ↦ before_ascii text (at + n) more (let e = get_or-drop at text n 0 in omega arith)
      | inr past ↦ place text (at + n) (subst (λ (i : ℕ). (i ≤ length text) × (i < length text → 128 ≤ slice_index text i → 192 ≤ slice_index text i)) (let e : length text ≡ at + n = omega (arith, within) in e) (IsCharBoundary-end text))
    ]
    | inr last ↦ after_ascii text (at + (n - 1)) (at + n) utf8 (omega (arith, last.0)) (omega (arith, last.0, within)) (let e = get_or-drop at text (n - 1) 0 in omega (arith, last.1))
  ]

  quotes : Quotes (drop at text) n → (at + 2 ≤ at + n) × IsPlace text (at + 1) × IsPlace text (at + n - 1)
  quotes q =
      let first : get_or text at 0 < 128 = (let e = get_or-drop at text 0 0 in subst (λ (i : ℕ). get_or text i 0 < 128) (let same : at + 0 ≡ at = omega arith in same) (omega (arith, q.first))) in
      let last : get_or text (at + n - 1) 0 < 128 = (let e = get_or-drop at text (n - 1) 0 in subst (λ (i : ℕ). get_or text i 0 < 128) (let same : at + (n - 1) ≡ at + n - 1 = omega (arith, q.two) in same) (omega (arith, q.last))) in
      (omega (arith, q.two), after_ascii text at (at + 1) utf8 refl (omega (arith, q.two, within)) first, before_ascii text (at + n - 1) (omega (arith, q.two, within)) last)

  pub stands : ValueStands text kind at (at + n)
  stands = by_kind kind (sound.2)
    where
      by_kind : (v : XKind) → (is_literal v ≡ true → Quotes (drop at text) n) → ValueStands text v at (at + n)
      by_kind k.Literal q = quotes (q refl)
      by_kind _ q = (omega arith, here, to_place)

  -- the value is what is written there
  pub value_is : written kind n (drop at text) ≡ value_bytes kind text at (at + n)
  value_is = by_kind kind
    where
      by_kind : (v : XKind) → written v n (drop at text) ≡ value_bytes v text at (at + n)
      by_kind k.Literal = rw (drop-drop 1 at text) (ap (λ (m : ℕ). take m (drop (at + 1) text)) (let e : n - 2 ≡ at + n - 1 - (at + 1) = omega arith in e))
      by_kind _ = ap (λ (m : ℕ). take m (drop at text)) (let e : n ≡ at + n - at = omega arith in e)

  pub longest : token (drop at text) ≡ Some (lexeme kind (value_bytes kind text at (at + n)), drop (at + n) text)
  longest =
      let r = token_right (drop at text) in
      r.is ∙ ap (cut (drop at text)) h ∙ ap (λ (v : Text). Some (lexeme kind v, drop n (drop at text))) value_is ∙ ap (λ (v : Text). Some (lexeme kind (value_bytes kind text at (at + n)), v)) (drop-drop n at text)

  pub next : (w : XTok) → w.kind ≡ kind → w.from ≡ at → w.to ≡ at + n → w.value ≡ chars (value_bytes kind text at (at + n)) → encode_utf8_all w.value ≡ value_bytes kind text at (at + n) → IsNext text at w
  next w a b c d u = record {
    here = b;
    is = record {
      order = omega arith;
      gap = λ i x y. absurd (omega arith);
      longest = rw (a, b, c, u) longest;
      some = omega (arith, some);
      within = omega (arith, within);
      value = rw (a, b, c) d;
    };
    place = rw c to_place;
  }
