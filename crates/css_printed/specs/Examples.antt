-- The texts of some selectors.
use Rattle.std.specs.Prelude.{◌≡◌, ℕ, List, [], ◌∷◌, ◌++◌, Some, None, codes, pos, negsuc}
use Rattle.css_selectors.specs.declared.selector.Dialect.{Dialect}
use Rattle.css_selectors.specs.declared.selector.Dialect.TheVariants.{Generic, Html}
use Rattle.css_selectors.specs.declared.selector.Link.TheVariants as link
use Rattle.css_selectors.specs.declared.selector.Nth.TheVariants as nth
use Rattle.css_selectors.specs.declared.selector.Op.TheVariants as op
use Rattle.css_selectors.specs.declared.selector.Pseudo.TheVariants as pseudo
use Rattle.css_selectors.specs.declared.selector.Part.{Part}
use Rattle.css_selectors.specs.declared.selector.Relative.{Relative, roll-Relative}
use Rattle.css_selectors.specs.declared.selector.Selector.{Selector}
use Rattle.css_selectors.specs.declared.selector.Simple.{Simple}
use Rattle.css_selectors.specs.declared.selector.Tail.TheVariants as tail
use Rattle.css_selectors.specs.declared.selector.Test.TheVariants as test
use Rattle.css_selectors.specs.declared.selector.Weight.TheVariants as weight
use Rattle.css_selectors.specs.Examples.{part, compound, is, is_not, selector, single}
use Rattle.css_printed.specs.Printed.{printed}

abbrev pub named : List ℕ → List Simple → Selector
named name simples = single (Some name) simples

abbrev pub any : List Simple → Selector
any simples = single None simples

abbrev pub relative : List Part → Relative
relative parts = roll-Relative (record { parts = parts })

abbrev pub shows : Dialect → List Selector → List ℕ → Type 0
shows dialect items text = printed dialect (record { items = items }) ≡ text

abbrev pub double : List ℕ
double = 34 ∷ []

pub record WorkedTexts : Type 0 where
  -- a
  pub one_name : shows Html (named (codes "A") [] ∷ []) (codes "descendant-or-self::a")
  pub star : shows Generic (any [] ∷ []) (codes "descendant-or-self::*")
  -- div.content
  pub word : shows Html (named (codes "div") (is (test.Class (codes "content")) ∷ []) ∷ [])
      (codes "descendant-or-self::div[@class and contains(concat(' ', normalize-space(@class), ' '), ' content ')]")
  -- a[title="it's \22 x\22"]
  pub both_quotes : shows Html (named (codes "a") (is (test.Attr (codes "title") op.Equals (codes "it's " ++ (double ++ (codes "x" ++ double)))) ∷ []) ∷ [])
      (codes "descendant-or-self::a[@title = concat('it', " ++ (double ++ (codes "'" ++ (double ++ (codes ", 's " ++ (double ++ (codes "x" ++ (double ++ codes "')]"))))))))
  -- tr:nth-child(odd)
  pub odd : shows Html (named (codes "tr") (is (test.Nth nth.Child (pos 2) (pos 1)) ∷ []) ∷ []) (codes "descendant-or-self::tr[count(preceding-sibling::*) mod 2 = 0]")
  -- li:nth-child(-n+3)
  pub at_most : shows Html (named (codes "li") (is (test.Nth nth.Child (negsuc 0) (pos 3)) ∷ []) ∷ []) (codes "descendant-or-self::li[count(preceding-sibling::*) <= 2]")
  -- li:nth-child(0n+0)
  pub none : shows Html (named (codes "li") (is (test.Nth nth.Child (pos 0) (pos 0)) ∷ []) ∷ []) (codes "descendant-or-self::li[0]")
  -- li:nth-child(3n-4)
  pub third : shows Html (named (codes "li") (is (test.Nth nth.Child (pos 3) (negsuc 3)) ∷ []) ∷ []) (codes "descendant-or-self::li[count(preceding-sibling::*) mod 3 = 1]")
  -- li:not(:last-of-type)
  pub not_last : shows Html (named (codes "li") (is_not (test.Nth nth.LastOfType (pos 0) (pos 1)) ∷ []) ∷ []) (codes "descendant-or-self::li[not(self::*[count(following-sibling::li) = 0])]")
  -- h1 + p, ul > li
  pub siblings : shows Html
      (selector (part link.First (Some (codes "h1")) [] ∷ part link.Next (Some (codes "p")) [] ∷ []) tail.Element
      ∷ selector (part link.First (Some (codes "ul")) [] ∷ part link.Child (Some (codes "li")) [] ∷ []) tail.Element ∷ [])
      (codes "descendant-or-self::h1/following-sibling::*[1][self::p] | descendant-or-self::ul/li")
  -- a[href^=""], .a\ b, a:hover
  pub empty_prefix : shows Html (named (codes "a") (is (test.Attr (codes "href") op.Prefix []) ∷ []) ∷ []) (codes "descendant-or-self::a[0]")
  pub spaced_word : shows Html (any (is (test.Class (codes "a b")) ∷ []) ∷ []) (codes "descendant-or-self::*[0]")
  pub never : shows Html (named (codes "a") (is (test.Pseudo pseudo.Never) ∷ []) ∷ []) (codes "descendant-or-self::a[0]")
  -- [xlink\:href]
  pub odd_name : shows Html (any (is (test.Attr (codes "xlink:href") op.Exists []) ∷ []) ∷ []) (codes "descendant-or-self::*[attribute::*[name() = 'xlink:href']]")
  -- :lang(EN)
  pub lang_in_generic : shows Generic (any (is (test.Lang (codes "EN")) ∷ []) ∷ []) (codes "descendant-or-self::*[lang('EN')]")
  pub lang_in_html : shows Html (any (is (test.Lang (codes "EN")) ∷ []) ∷ [])
      (codes "descendant-or-self::*[ancestor-or-self::*[@lang][1][starts-with(concat(translate(@lang, 'ABCDEFGHIJKLMNOPQRSTUVWXYZ', 'abcdefghijklmnopqrstuvwxyz'), '-'), 'en-')]]")
  -- ul a ~ b[x$="yz"]::attr(Href)
  pub last_characters : shows Generic
      (selector
      (part link.First (Some (codes "ul")) []
      ∷ part link.Descendant (Some (codes "a")) []
      ∷ part link.Later (Some (codes "b")) (is (test.Attr (codes "x") op.Suffix (codes "yz")) ∷ [])
      ∷ [])
      (tail.Attr (codes "Href")) ∷ [])
      (codes "descendant-or-self::ul/descendant::a/following-sibling::b[@x and substring(@x, string-length(@x) - 1) = 'yz']/@Href")
  -- :not(p):only-child::text
  pub only_text : shows Html
      (selector (part link.First None (is_not (test.Element (Some (codes "P"))) ∷ is (test.Pseudo pseudo.OnlyChild) ∷ []) ∷ []) tail.Text ∷ [])
      (codes "descendant-or-self::*[not(self::p)][count(preceding-sibling::*) = 0][count(following-sibling::*) = 0]/text()")
  -- a:is(.x, #y)
  pub either : shows Html (named (codes "a") (is (test.Any weight.Most (compound None (is (test.Class (codes "x")) ∷ []) ∷ compound None (is (test.Id (codes "y")) ∷ []) ∷ [])) ∷ []) ∷ [])
      (codes "descendant-or-self::a[self::*[@class and contains(concat(' ', normalize-space(@class), ' '), ' x ')] or self::*[@id = 'y']]")
  -- :where(li, td):not(p.x, b)
  pub neither : shows Html
      (any
      (is (test.Any weight.Zero (compound (Some (codes "li")) [] ∷ compound (Some (codes "td")) [] ∷ []))
      ∷ is_not (test.Any weight.Most (compound (Some (codes "p")) (is (test.Class (codes "x")) ∷ []) ∷ compound (Some (codes "b")) [] ∷ []))
      ∷ []) ∷ [])
      (codes "descendant-or-self::*[self::li or self::td][not(self::p[@class and contains(concat(' ', normalize-space(@class), ' '), ' x ')] or self::b)]")
  -- li:is(:first-of-type)
  pub of_type_around : shows Html (named (codes "li") (is (test.Any weight.Most (compound None (is (test.Nth nth.OfType (pos 0) (pos 1)) ∷ []) ∷ [])) ∷ []) ∷ [])
      (codes "descendant-or-self::li[self::*[count(preceding-sibling::li) = 0]]")
  -- :not(:not(a))
  pub twice_negated : shows Html (any (is_not (test.Any weight.Most (compound None (is_not (test.Element (Some (codes "a"))) ∷ []) ∷ [])) ∷ []) ∷ []) (codes "descendant-or-self::*[not(self::*[not(self::a)])]")
  -- ul:has(> li.x + li)
  pub has_child : shows Html
      (named (codes "ul")
      (is (test.Has (relative (part link.Child (Some (codes "li")) (is (test.Class (codes "x")) ∷ []) ∷ part link.Next (Some (codes "li")) [] ∷ []) ∷ [])) ∷ []) ∷ [])
      (codes "descendant-or-self::ul[child::li[@class and contains(concat(' ', normalize-space(@class), ' '), ' x ')]/following-sibling::*[1][self::li]]")
  -- h1:has(+ p, ~ ul)
  pub has_sibling : shows Html
      (named (codes "h1")
      (is (test.Has (relative (part link.Next (Some (codes "p")) [] ∷ []) ∷ relative (part link.Later (Some (codes "ul")) [] ∷ []) ∷ [])) ∷ []) ∷ [])
      (codes "descendant-or-self::h1[following-sibling::*[1][self::p] or following-sibling::ul]")
  -- p:not(:has(a))
  pub has_not : shows Html
      (named (codes "p")
      (is_not (test.Any weight.Most (compound None (is (test.Has (relative (part link.Descendant (Some (codes "a")) [] ∷ []) ∷ [])) ∷ []) ∷ [])) ∷ []) ∷ [])
      (codes "descendant-or-self::p[not(self::*[descendant::a])]")
