-- What is printed of each form of test, and the choices and relatives as they grow.
use Rattle.std.proofs.Common.{◌≡◌, refl, sym, ◌∙◌, ap, ℕ, ℤ, Bool, true, false, cond, List, [], ◌∷◌, ◌++◌, map, Option, codes, append_assoc, append-nil}
use Rattle.std.specs.Prelude.{encode_utf8_all}
use Rattle.std.specs.List.{flat_map}
use Rattle.css_selectors.specs.declared.selector.Compound.{Compound}
use Rattle.css_selectors.specs.declared.selector.Dialect.{Dialect}
use Rattle.css_selectors.specs.declared.selector.Nth.{Nth}
use Rattle.css_selectors.specs.declared.selector.Op.{Op}
use Rattle.css_selectors.specs.declared.selector.Op.TheVariants as op
use Rattle.css_selectors.specs.declared.selector.Part.{Part, out-Part}
use Rattle.css_selectors.specs.declared.selector.Pseudo.{Pseudo}
use Rattle.css_selectors.specs.declared.selector.Relative.{Relative}
use Rattle.css_selectors.specs.declared.selector.Simple.{Simple}
use Rattle.css_selectors.specs.declared.selector.Test.TheVariants as v
use Rattle.css_selectors.specs.declared.selector.Weight.{Weight}
use Rattle.css_printed.specs.Literals.{literal_text}
use Rattle.css_printed.specs.Names.{element_text, attribute_text}
use Rattle.css_printed.specs.Simples.{op_text, nth_text, pseudo_text, lang_text}
use Rattle.css_printed.specs.TestTexts.{Steps, choice, path_text, test_said, compound_text, part_steps, relative_text, simple_text}
use Rattle.css_printed.proofs.PrintedAt as at
use Rattle.css_translate.specs.inner.Pieces.{link_text, or_text, step_at}

abbrev Name : Type 0
Name = Option (List ℕ)

module _ (d : Dialect) where
  pub brackets_element : (n : Name) (around : Name) → (test_said d (v.Element n) around).brackets ≡ codes "[" ++ ((codes "self::" ++ element_text d n) ++ codes "]")
  brackets_element n around = ap (λ s. s.brackets) (at.said_element d n around)

  pub inside_element : (n : Name) (around : Name) → (test_said d (v.Element n) around).inside ≡ codes "self::" ++ element_text d n
  inside_element n around = ap (λ s. s.inside) (at.said_element d n around)

  pub brackets_id : (x : List ℕ) (around : Name) → (test_said d (v.Id x) around).brackets ≡ codes "[@id = " ++ (literal_text (encode_utf8_all x) ++ codes "]")
  brackets_id x around = ap (λ s. s.brackets) (at.said_id d x around)

  pub inside_id : (x : List ℕ) (around : Name) → (test_said d (v.Id x) around).inside ≡ codes "self::*" ++ (test_said d (v.Id x) around).brackets
  inside_id x around = ap (λ s. s.inside) (at.said_id d x around) ∙ ap (λ s. codes "self::*" ++ s.brackets) (sym (at.said_id d x around))

  pub brackets_class : (x : List ℕ) (around : Name) → (test_said d (v.Class x) around).brackets ≡ op_text (attribute_text d (codes "class")) op.Word x
  brackets_class x around = ap (λ s. s.brackets) (at.said_class d x around)

  pub inside_class : (x : List ℕ) (around : Name) → (test_said d (v.Class x) around).inside ≡ codes "self::*" ++ (test_said d (v.Class x) around).brackets
  inside_class x around = ap (λ s. s.inside) (at.said_class d x around) ∙ ap (λ s. codes "self::*" ++ s.brackets) (sym (at.said_class d x around))

  pub brackets_attr : (n : List ℕ) (o : Op) (x : List ℕ) (around : Name) → (test_said d (v.Attr n o x) around).brackets ≡ op_text (attribute_text d n) o x
  brackets_attr n o x around = ap (λ s. s.brackets) (at.said_attr d n o x around)

  pub inside_attr : (n : List ℕ) (o : Op) (x : List ℕ) (around : Name) → (test_said d (v.Attr n o x) around).inside ≡ codes "self::*" ++ (test_said d (v.Attr n o x) around).brackets
  inside_attr n o x around = ap (λ s. s.inside) (at.said_attr d n o x around) ∙ ap (λ s. codes "self::*" ++ s.brackets) (sym (at.said_attr d n o x around))

  pub brackets_nth : (k : Nth) (a b : ℤ) (around : Name) → (test_said d (v.Nth k a b) around).brackets ≡ nth_text d around k a b
  brackets_nth k a b around = ap (λ s. s.brackets) (at.said_nth d k a b around)

  pub inside_nth : (k : Nth) (a b : ℤ) (around : Name) → (test_said d (v.Nth k a b) around).inside ≡ codes "self::*" ++ (test_said d (v.Nth k a b) around).brackets
  inside_nth k a b around = ap (λ s. s.inside) (at.said_nth d k a b around) ∙ ap (λ s. codes "self::*" ++ s.brackets) (sym (at.said_nth d k a b around))

  pub brackets_pseudo : (p : Pseudo) (around : Name) → (test_said d (v.Pseudo p) around).brackets ≡ pseudo_text d around p
  brackets_pseudo p around = ap (λ s. s.brackets) (at.said_pseudo d p around)

  pub inside_pseudo : (p : Pseudo) (around : Name) → (test_said d (v.Pseudo p) around).inside ≡ codes "self::*" ++ (test_said d (v.Pseudo p) around).brackets
  inside_pseudo p around = ap (λ s. s.inside) (at.said_pseudo d p around) ∙ ap (λ s. codes "self::*" ++ s.brackets) (sym (at.said_pseudo d p around))

  pub brackets_contains : (x : List ℕ) (around : Name) → (test_said d (v.Contains x) around).brackets ≡ codes "[contains(., " ++ (literal_text (encode_utf8_all x) ++ codes ")]")
  brackets_contains x around = ap (λ s. s.brackets) (at.said_contains d x around)

  pub inside_contains : (x : List ℕ) (around : Name) → (test_said d (v.Contains x) around).inside ≡ codes "self::*" ++ (test_said d (v.Contains x) around).brackets
  inside_contains x around = ap (λ s. s.inside) (at.said_contains d x around) ∙ ap (λ s. codes "self::*" ++ s.brackets) (sym (at.said_contains d x around))

  pub brackets_lang : (x : List ℕ) (around : Name) → (test_said d (v.Lang x) around).brackets ≡ lang_text d x
  brackets_lang x around = ap (λ s. s.brackets) (at.said_lang d x around)

  pub inside_lang : (x : List ℕ) (around : Name) → (test_said d (v.Lang x) around).inside ≡ codes "self::*" ++ (test_said d (v.Lang x) around).brackets
  inside_lang x around = ap (λ s. s.inside) (at.said_lang d x around) ∙ ap (λ s. codes "self::*" ++ s.brackets) (sym (at.said_lang d x around))

  pub brackets_any : (w : Weight) (list : List Compound) (around : Name) → (test_said d (v.Any w list) around).brackets ≡ codes "[" ++ (choice (map (λ c. compound_text d c around) list) ++ codes "]")
  brackets_any w list around = ap (λ s. s.brackets) (at.said_any d w list around)

  pub inside_any : (w : Weight) (list : List Compound) (around : Name) → (test_said d (v.Any w list) around).inside ≡ choice (map (λ c. compound_text d c around) list)
  inside_any w list around = ap (λ s. s.inside) (at.said_any d w list around)

  pub brackets_has : (list : List Relative) (around : Name) → (test_said d (v.Has list) around).brackets ≡ codes "[" ++ (choice (map (relative_text d) list) ++ codes "]")
  brackets_has list around = ap (λ s. s.brackets) (at.said_has d list around)

  pub inside_has : (list : List Relative) (around : Name) → (test_said d (v.Has list) around).inside ≡ codes "self::*" ++ (test_said d (v.Has list) around).brackets
  inside_has list around = ap (λ s. s.inside) (at.said_has d list around) ∙ ap (λ s. codes "self::*" ++ s.brackets) (sym (at.said_has d list around))

  pub at_negated : (s : Simple) (around : Name) → s.negated ≡ true → simple_text d s around ≡ codes "[not(" ++ ((test_said d s.test around).inside ++ codes ")]")
  at_negated s around h = at.text_at_simple d s around ∙ ap (λ n. cond n (codes "[not(" ++ ((test_said d s.test around).inside ++ codes ")]")) (test_said d s.test around).brackets) h

  pub at_plain : (s : Simple) (around : Name) → s.negated ≡ false → simple_text d s around ≡ (test_said d s.test around).brackets
  at_plain s around h = at.text_at_simple d s around ∙ ap (λ n. cond n (codes "[not(" ++ ((test_said d s.test around).inside ++ codes ")]")) (test_said d s.test around).brackets) h

  pub at_part : (p : Part) (b : Bool) → step_at b (part_steps d p) ≡ link_text d b (out-Part p).link (out-Part p).element ++ flat_map (λ s. simple_text d s (out-Part p).element) (out-Part p).simples
  at_part p true = at.text_at_first d p
  at_part p false = at.text_at_part d p

-- ---- choices and relatives

abbrev pub is_nil : {A : Type 0} → List A → Bool
is_nil [] = true
is_nil (x ∷ xs) = false

pub not_nil : {A : Type 0} (xs : List A) (y : A) → false ≡ is_nil (xs ++ y ∷ [])
not_nil [] y = refl
not_nil (x ∷ xs) y = refl

-- one more alternative at the end
pub choice_more : {A : Type 0} (text : A → List ℕ) (xs : List A) (y : A) → choice (map text (xs ++ y ∷ [])) ≡ choice (map text xs) ++ (or_text (is_nil xs) ++ text y)
choice_more text [] y = refl
choice_more text (a ∷ []) y = refl
choice_more text (a ∷ (b ∷ xs)) y =
    ap (λ r. text a ++ (codes " or " ++ r)) (choice_more text (b ∷ xs) y)
    ∙ sym (append_assoc (text a) (codes " or " ++ choice (map text (b ∷ xs))) (or_text false ++ text y))

-- one more part at the end
further_more : (f : Part → Steps) (xs : List Part) (y : Part) → flat_map (λ s. s.further) (map f (xs ++ y ∷ [])) ≡ flat_map (λ s. s.further) (map f xs) ++ (f y).further
further_more f [] y = append-nil (f y).further
further_more f (x ∷ xs) y = ap (λ r. (f x).further ++ r) (further_more f xs y) ∙ sym (append_assoc (f x).further (flat_map (λ s. s.further) (map f xs)) (f y).further)

pub path_more : (f : Part → Steps) (xs : List Part) (y : Part) → path_text (map f (xs ++ y ∷ [])) ≡ path_text (map f xs) ++ step_at (is_nil xs) (f y)
path_more f [] y = append-nil (f y).first
path_more f (x ∷ xs) y = ap (λ r. (f x).first ++ r) (further_more f xs y) ∙ sym (append_assoc (f x).first (flat_map (λ s. s.further) (map f xs)) (f y).further)
