-- A text is spelled by at most one list of tokens.
use Rattle.std.proofs.Common.{◌≡◌, refl, sym, ◌∙◌, ap, subst, ℕ, true, false, List, [], ◌∷◌, Some, None, arith, ◌⊎◌, inl, inr}
use Rattle.std.proofs.lemmas.Bool.Decides.{nat_tests}
use Rattle.text_base.specs.Text.{is_space4}
use Rattle.xpath_lexer.specs.Tokens.{Text, Lexeme, Begun, Spells, token, ends, space, next}

spaces : (b : ℕ) → is_space4 b ≡ true → (b ≡ 32) ⊎ ((b ≡ 9) ⊎ ((b ≡ 10) ⊎ (b ≡ 13)))
spaces b h = grind (arith, nat_tests)

-- white space begins no token
pub space_none : (b : ℕ) (bs : Text) → is_space4 b ≡ true → token (b ∷ bs) ≡ None
space_none b bs h = elim (spaces b h) [
  | inl e ↦ subst (λ (c : ℕ). token (c ∷ bs) ≡ None) (sym e) refl
  | inr n ↦ elim n [
    | inl e ↦ subst (λ (c : ℕ). token (c ∷ bs) ≡ None) (sym e) refl
    | inr m ↦ elim m [
      | inl e ↦ subst (λ (c : ℕ). token (c ∷ bs) ≡ None) (sym e) refl
      | inr e ↦ subst (λ (c : ℕ). token (c ∷ bs) ≡ None) (sym e) refl
    ]
  ]
]

-- nothing spells the empty text but no tokens
only_none : {text : Text} {ws : List Lexeme} → text ≡ [] → Spells text ws → [] ≡ ws
only_none e ends = refl
only_none e (space s r) = cc
only_none e (next {bs = bs} t r) = let no : token bs ≡ None = ap token e in cc

-- after white space the text goes on with the same tokens
pub after_space : {text : Text} {ws : List Lexeme} (c : ℕ) (cs : Text) → is_space4 c ≡ true → text ≡ c ∷ cs → Spells text ws → Spells cs ws
after_space c cs h e ends = cc
after_space c cs h e (space {bs = bs} {ws = ws} s r) = let same : bs ≡ cs = cc in subst (λ (v : Text). Spells v ws) same r
after_space c cs h e (next {bs = bs} t r) = let no : token bs ≡ None = ap token e ∙ space_none c cs h in cc

-- the tokens begin with the one at the front of the text
pub record Begins (left : Text) (w : Lexeme) (ws : List Lexeme) : Type 0 where
  pub tail : List Lexeme
  pub is : ws ≡ w ∷ tail
  pub spells : Spells left tail

first_of_pair : (w v : Lexeme) (left more : Text) → ◌≡◌ {A = Begun} (Some (w, left)) (Some (v, more)) → (w ≡ v) × (left ≡ more)
first_of_pair w v left more h = let same : ◌≡◌ {A = Lexeme × Text} (w, left) (v, more) = cc in (ap (λ (q : Lexeme × Text). q.0) same, ap (λ (q : Lexeme × Text). q.1) same)

pub after_token : {text : Text} {ws : List Lexeme} (w : Lexeme) (left : Text) → token text ≡ Some (w, left) → Spells text ws → Begins left w ws
after_token w left h ends = cc
after_token w left h (space {b = b} {bs = bs} s r) = let no : token (b ∷ bs) ≡ None = space_none b bs s in cc
after_token w left h (next {left = more} {w = v} {ws = ws} t r) =
    let same = first_of_pair v w more left (sym t ∙ h) in
    record { tail = ws; is = ap (λ (u : Lexeme). u ∷ ws) same.0; spells = subst (λ (u : Text). Spells u ws) same.1 r }

-- a text that begins with no token and no white space is not spelled
pub none_begins : {text : Text} {ws : List Lexeme} (c : ℕ) (cs : Text) → text ≡ c ∷ cs → is_space4 c ≡ false → token (c ∷ cs) ≡ None → Spells text ws → ⊥
none_begins c cs e h n ends = cc
none_begins c cs e h n (space {b = b} s r) = let same : b ≡ c = cc in cc (ap is_space4 same)
none_begins c cs e h n (next {bs = bs} t r) = let no : token bs ≡ None = ap token e ∙ n in cc

pub one_spelling : {text : Text} {a : List Lexeme} (b : List Lexeme) → Spells text a → Spells text b → a ≡ b
one_spelling b ends q = only_none refl q
one_spelling b (space {b = c} {bs = cs} s r) q = one_spelling b r (after_space c cs s refl q)
one_spelling b (next {left = left} {w = w} t r) q =
    let n = after_token w left t q in
    ap (λ v. w ∷ v) (one_spelling n.tail r n.spells) ∙ sym n.is
