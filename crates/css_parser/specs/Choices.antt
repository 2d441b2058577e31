-- Simple selectors, choices and pseudo-elements, after Selectors Level 4, sections 4.2 to 4.5. A choice is read at any depth.
-- What stands in it is kept of those that stand inside seven others at most, and of a `has` only where it stands in no other.
use Rattle.std.specs.Prelude.{◌≡◌, ℕ, zero, suc, ◌+◌, ◌&&◌, ◌||◌, Bool, true, false, if◌then◌else◌, List, [], ◌∷◌, length, Option, Some, None}
use Rattle.css_lexer.specs.declared.tokens.CssKind.TheVariants as kind
use Rattle.css_lexer.specs.declared.tokens.CssToken.{CssToken}
use Rattle.css_selectors.specs.declared.selector.Link.{Link}
use Rattle.css_selectors.specs.declared.selector.Link.TheVariants as link
use Rattle.css_parser.specs.declared.pieces.Word.{Word}
use Rattle.css_parser.specs.declared.pieces.Word.TheVariants as word
use Rattle.css_parser.specs.declared.pieces.Form.{Form}
use Rattle.css_parser.specs.declared.pieces.Form.TheVariants as form
use Rattle.css_parser.specs.declared.pieces.FormRead.{FormRead}
use Rattle.css_parser.specs.declared.pieces.FormsRead.{FormsRead}
use Rattle.css_parser.specs.declared.pieces.Inner.{Inner, roll-Inner}
use Rattle.css_parser.specs.declared.pieces.InnerRead.{InnerRead}
use Rattle.css_parser.specs.declared.pieces.InnersRead.{InnersRead}
use Rattle.css_parser.specs.declared.pieces.Member.{Member, roll-Member}
use Rattle.css_parser.specs.declared.pieces.ListRead.{ListRead}
use Rattle.css_parser.specs.declared.pieces.LinkRead.{LinkRead}
use Rattle.css_parser.specs.declared.pieces.ElementRead.{ElementRead}
use Rattle.css_parser.specs.declared.pieces.Read.{Read}
use Rattle.css_parser.specs.Places.{stands, skip, text_at}
use Rattle.css_parser.specs.Links.{combinator, sign}
use Rattle.css_parser.specs.Simples.{element, piece_at, word_called}

-- the word of the choice that begins at i: `:` and a Function with the name of a choice
unfoldable pub word_at : List CssToken → ℕ → Option Word
word_at ts i = if stands kind.Colon ts i && stands kind.Function ts (i + 1) then word_called (text_at ts (i + 1)) else None

abbrev pub form_read : Form → ℕ → FormRead
form_read x j = record { form = x; end = j }

abbrev pub one_read : Option Read → Option FormRead
one_read None = None
one_read (Some r) = Some (form_read (form.One r.piece) r.end)

abbrev pub choice_read : Word → Option ListRead → Option FormRead
choice_read w None = None
choice_read w (Some r) = Some (form_read (form.Choice w r.list) r.end)

abbrev pub deep_read : Option ListRead → Option FormRead
deep_read None = None
deep_read (Some r) = Some (form_read form.Deep r.end)

-- what is read at each place
abbrev pub Reader : Type 0
Reader = ℕ → Option FormRead

abbrev pub forms_by : ℕ → (ℕ → FormsRead) → Option FormRead → FormsRead
forms_by i more None = record { forms = []; end = i }
forms_by i more (Some r) = let rest = more r.end in record { forms = r.form ∷ rest.forms; end = rest.end }

-- from i up to j stand these forms
abbrev pub Forms : Reader → ℕ → List Form → ℕ → Type 0
Forms f i [] j = i ≡ j
Forms f i (x ∷ xs) j = (k : ℕ) × (f i ≡ Some (form_read x k)) × Forms f k xs j

-- the forms from i on, as many as there are and m at most
abbrev pub forms_from : Reader → ℕ → ℕ → FormsRead
forms_from f zero i = record { forms = []; end = i }
forms_from f (suc m) i = forms_by i (forms_from f m) (f i)

abbrev pub inner_read : Link → Bool → Option (List ℕ) → Bool → FormsRead → InnerRead
inner_read l named name prefixed r = record { inner = roll-Inner (record { link = l; named = named; element = name; prefixed = prefixed; forms = r.forms }); end = r.end }

abbrev pub some_read : List Form → InnerRead → Option InnerRead
some_read [] r = None
some_read (x ∷ xs) r = Some r

abbrev pub inner_with : Link → Option ElementRead → (ℕ → FormsRead) → ℕ → Option InnerRead
inner_with l (Some e) forms i = Some (inner_read l true e.name e.prefixed (forms e.end))
inner_with l None forms i = let r = forms i in some_read r.forms (inner_read l false None false r)

-- Each compound holds the combinator before it.
abbrev pub parts_by : ℕ → (ℕ → InnersRead) → Option InnerRead → InnersRead
parts_by i more None = record { inners = []; end = i }
parts_by i more (Some r) = let rest = more r.end in record { inners = r.inner ∷ rest.inners; end = rest.end }

-- a compound by itself
abbrev pub alone : Option InnerRead → Option InnersRead
alone None = None
alone (Some r) = Some (record { inners = r.inner ∷ []; end = r.end })

-- a compound, and those that combinators join to it
abbrev pub joined : (ℕ → InnersRead) → Option InnerRead → Option InnersRead
joined more None = None
joined more (Some r) = let rest = more r.end in Some (record { inners = r.inner ∷ rest.inners; end = rest.end })

abbrev pub member_of : List Inner → Member
member_of xs = roll-Member (record { parts = xs })

abbrev pub front : Member → Option ListRead → Option ListRead
front x None = None
front x (Some r) = Some (record { list = x ∷ r.list; end = r.end })

abbrev pub is_has : Word → Bool
is_has word.Has = true
is_has _ = false

module _ (text : List ℕ) (ts : List CssToken) where
  -- inner: an optional element, then simples and pseudo-elements, and not nothing; behind a combinator, or First where there
  -- is none
  unfoldable pub inner_at : Reader → Link → ℕ → Option InnerRead
  inner_at f l i = inner_with l (element ts i) (forms_from f (length ts)) i

  abbrev pub further_with : Reader → Option LinkRead → Option InnerRead
  further_with f None = None
  further_with f (Some l) = inner_at f l.link l.end

  -- a combinator and an inner
  abbrev pub further_at : Reader → ℕ → Option InnerRead
  further_at f i = further_with f (combinator ts i)

  -- a combinator and an inner, as often as they stand there and m times at most
  abbrev pub parts_from : Reader → ℕ → ℕ → InnersRead
  parts_from f zero i = record { inners = []; end = i }
  parts_from f (suc m) i = parts_by i (parts_from f m) (further_at f i)

  -- What stands in a choice once. In a `has` it is a relative: an optional `>`, `+` or `~` with S after it, then an inner, then
  -- any number of a combinator and an inner. In any other choice it is one inner.
  unfoldable pub member_at : Reader → Word → ℕ → Option InnersRead
  member_at f word.Has i = let s = sign ts i in joined (parts_from f (length ts)) (inner_at f s.link s.end)
  member_at f _ i = alone (inner_at f link.First i)

  -- after a member and S: `)`, or `,` and more
  abbrev pub list_by : (ℕ → Option ListRead) → Option InnersRead → Option ListRead
  list_by more None = None
  list_by more (Some r) =
      let j = skip ts r.end in
      if stands kind.CloseRound ts j then Some (record { list = member_of r.inners ∷ []; end = j + 1 })
      else (if stands kind.Comma ts j then front (member_of r.inners) (more (j + 1))
      else None)

  -- S, a member and S, then any number of `,`, S, a member and S, then `)`, with m members at most
  abbrev pub list_from : Reader → Word → ℕ → ℕ → Option ListRead
  list_from f w zero i = None
  list_from f w (suc m) i = list_by (list_from f w m) (member_at f w (skip ts i))

  -- as many as tokens are enough
  abbrev pub members : Reader → Word → ℕ → Option ListRead
  members f w i = list_from f w (length ts) i

  abbrev pub choice_with : Option Word → Option FormRead → (Word → Option FormRead) → Option FormRead
  choice_with None plain choice = plain
  choice_with (Some w) plain choice = choice w

  -- a simple selector, a choice or a pseudo-element, with at most n choices in each other, of which nothing is kept
  unfoldable pub deep_by : ℕ → Reader
  deep_by zero i = choice_with (word_at ts i) (one_read (piece_at text ts i)) (λ w. None)
  deep_by (suc n) i = choice_with (word_at ts i) (one_read (piece_at text ts i)) (λ w. deep_read (members (deep_by n) w (i + 2)))

  -- As many levels as tokens are enough.
  abbrev pub deep : Reader
  deep i = deep_by (length ts) i

  -- a simple selector, a choice or a pseudo-element, inside a `has` or not, where n choices in each other are kept, and neither
  -- what is deeper nor a `has` inside another
  unfoldable pub simple_by : ℕ → Bool → Reader
  simple_by zero within i = deep i
  simple_by (suc n) within i =
      choice_with (word_at ts i) (one_read (piece_at text ts i))
      (λ w. if is_has w && within then deep i else choice_read w (members (simple_by n (within || is_has w)) w (i + 2)))

-- a simple selector, a choice or a pseudo-element; nothing is kept of a choice inside eight others, nor of a `has` inside another
abbrev pub simple : List ℕ → List CssToken → Reader
simple text ts i = simple_by text ts 8 false i
