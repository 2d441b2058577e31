-- The names and values of what is printed are texts.
use Rattle.std.proofs.Common.{◌≡◌, refl, sym, ◌∙◌, subst, ℕ, Bool, List, [], ◌∷◌, ◌++◌, true, Option, Result, Ok, Err, OnOk}
use Rattle.std.proofs.lemmas.Bool.{and_from}
use lib.Utf8.{scalars}
use Rattle.std.specs.List.{AllByRecursion, list_all}
use Rattle.css_selectors.specs.declared.selector.Compound.{Compound, out-Compound}
use Rattle.css_selectors.specs.declared.selector.Op.{Op}
use Rattle.css_selectors.specs.declared.selector.Part.{Part, out-Part}
use Rattle.css_selectors.specs.declared.selector.Relative.{Relative, out-Relative}
use Rattle.css_selectors.specs.declared.selector.Selector.{Selector}
use Rattle.css_selectors.specs.declared.selector.SelectorList.{SelectorList}
use Rattle.css_selectors.specs.declared.selector.Simple.{Simple}
use Rattle.css_selectors.specs.declared.selector.Test.TheVariants as v
use Rattle.css_selectors.specs.declared.selector.Weight.{Weight}
use Rattle.css_selectors.specs.Texts.{element_text, test_texts, compound_texts, part_texts, relative_texts, simple_texts, tail_text, selector_texts, AreTexts}
use Rattle.css_selectors.proofs.TextsAt as at
use Rattle.css_translate.specs.inner.Read.{IsReadSimple, IsReadCompound, IsReadPart, IsReadRelative, IsReadSelector}

each : {X : Type 0} (p : X → Bool) (xs : List X) → AllByRecursion (λ x. p x ≡ true) xs → list_all p xs ≡ true
each p [] h = refl
each p (x ∷ xs) h = and_from _ _ h.0 (each p xs h.1)

-- one more of a loop
pub grown : {X : Type 0} (P : X → Type 0) (xs : List X) (x : X) → AllByRecursion P xs → P x → AllByRecursion P (xs ++ x ∷ [])
grown P [] x h g = (g, tt)
grown P (y ∷ xs) x h g = (h.0, grown P xs x h.1 g)

-- where what was known before is known whatever a call answers
pub already : {V E : Type 0} (r : Result V E) (P : Type 0) → P → OnOk r P
already (Ok v) P h = h
already (Err e) P h = tt

-- ---- tests

pub read_element : (n : Option (List ℕ)) → element_text n ≡ true → test_texts (v.Element n) ≡ true
read_element n h = at.at_element n ∙ h

pub read_id : (x : List ℕ) → scalars x ≡ true → test_texts (v.Id x) ≡ true
read_id x h = at.at_id x ∙ h

pub read_class : (x : List ℕ) → scalars x ≡ true → test_texts (v.Class x) ≡ true
read_class x h = at.at_class x ∙ h

pub read_attr : (n : List ℕ) (o : Op) (x : List ℕ) → scalars n ≡ true → scalars x ≡ true → test_texts (v.Attr n o x) ≡ true
read_attr n o x h g = at.at_attr n o x ∙ and_from _ _ h g

pub read_contains : (x : List ℕ) → scalars x ≡ true → test_texts (v.Contains x) ≡ true
read_contains x h = at.at_contains x ∙ h

pub read_lang : (x : List ℕ) → scalars x ≡ true → test_texts (v.Lang x) ≡ true
read_lang x h = at.at_lang x ∙ h

module _ {V E : Type 0} where
  pub read_any : (r : Result V E) (w : Weight) (list : List Compound) → OnOk r (AllByRecursion IsReadCompound list) → OnOk r (test_texts (v.Any w list) ≡ true)
  read_any (Ok x) w list h = at.at_any w list ∙ each compound_texts list h
  read_any (Err e) w list h = tt

  pub read_has : (r : Result V E) (list : List Relative) → OnOk r (AllByRecursion IsReadRelative list) → OnOk r (test_texts (v.Has list) ≡ true)
  read_has (Ok x) list h = at.at_has list ∙ each relative_texts list h
  read_has (Err e) list h = tt

  -- ---- what holds tests

  pub read_simple : (r : Result V E) (x : Simple) → OnOk r (test_texts x.test ≡ true) → OnOk r (IsReadSimple x)
  read_simple (Ok y) x h = at.at_simple x ∙ h
  read_simple (Err e) x h = tt

  pub read_compound : (r : Result V E) (c : Compound) → element_text (out-Compound c).element ≡ true → OnOk r (AllByRecursion IsReadSimple (out-Compound c).simples) → OnOk r (IsReadCompound c)
  read_compound (Ok x) c h g = at.at_compound c ∙ and_from _ _ h (each simple_texts (out-Compound c).simples g)
  read_compound (Err e) c h g = tt

  pub read_part : (r : Result V E) (p : Part) → element_text (out-Part p).element ≡ true → OnOk r (AllByRecursion IsReadSimple (out-Part p).simples) → OnOk r (IsReadPart p)
  read_part (Ok x) p h g = at.at_part p ∙ and_from _ _ h (each simple_texts (out-Part p).simples g)
  read_part (Err e) p h g = tt

  pub read_relative : (r : Result V E) (m : Relative) → OnOk r (AllByRecursion IsReadPart (out-Relative m).parts) → OnOk r (IsReadRelative m)
  read_relative (Ok x) m h = at.at_relative m ∙ each part_texts (out-Relative m).parts h
  read_relative (Err e) m h = tt

  pub read_selector : (r : Result V E) (s : Selector) → AllByRecursion IsReadPart s.parts → OnOk r (tail_text s.tail ≡ true) → OnOk r (IsReadSelector s)
  read_selector (Ok x) s h g = and_from _ _ (each part_texts s.parts h) g
  read_selector (Err e) s h g = tt

  pub read_selectors : (r : Result V E) (first : Selector) (rest all : List Selector) → all ≡ first ∷ rest → IsReadSelector first → OnOk r (AllByRecursion IsReadSelector rest) → OnOk r (AllByRecursion IsReadSelector all)
  read_selectors (Ok x) first rest all e h g = subst (AllByRecursion IsReadSelector) (sym e) (h, g)
  read_selectors (Err e) first rest all is h g = tt

pub are_texts : (list : SelectorList) → AllByRecursion IsReadSelector list.items → AreTexts list
are_texts list h = each selector_texts list.items h
