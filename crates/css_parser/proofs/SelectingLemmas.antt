-- Which texts are lists, and why a text is none.
use Rattle.std.proofs.Common.{map, ◌≡◌, ℕ, ◌<◌, ◌≤◌, List, [], ◌∷◌, length, refl, sym, ◌∙◌, ap, subst, arith, Bool, true, false, ◌&&◌, not}
use Rattle.std.specs.Prelude.{◌||◌, Option, Some, None, Err, is_none}
use Rattle.css_lexer.specs.declared.tokens.CssToken.{CssToken}
use Rattle.css_lexer.specs.Tokens.{Lexes, Stops, IsLexed, most_selector}
use Rattle.css_lexer.proofs.EscapeLemmas.{cases_if}
use Rattle.css_lexer.proofs.TokenLemmas.{one_list, not_both}
use Rattle.css_selectors.specs.declared.selector.SelectorList.{SelectorList}
use Rattle.text_base.specs.declared.reasons.SelectorFault.{SelectorFault}
use Rattle.text_base.specs.declared.reasons.SelectorFault.TheVariants as fault
use Rattle.css_parser.specs.declared.pieces.Piece.{Piece}
use Rattle.css_parser.specs.declared.pieces.Piece.TheVariants as piece
use Rattle.css_parser.specs.declared.pieces.Form.{Form, roll-Form}
use Rattle.css_parser.specs.declared.pieces.Form.TheOpen as open_
use Rattle.css_parser.specs.declared.pieces.Form.TheFolds as folds
use Rattle.css_parser.specs.declared.pieces.Form.TheFolds.{ind-Form}
use Rattle.css_parser.specs.declared.pieces.Form.TheViews as views
use Rattle.css_parser.specs.declared.pieces.Inner.{Inner, roll-Inner}
use Rattle.css_parser.specs.declared.pieces.Member.{Member, roll-Member}
use Rattle.css_parser.proofs.RefusalLemmas.{roll_one, roll_choice, roll_deep, inner_is, member_is}
use Rattle.css_parser.specs.declared.pieces.Compound.{Compound}
use Rattle.css_parser.specs.Choices.{is_has}
use Rattle.css_parser.specs.Grammar.{Reads}
use Rattle.text_base.specs.Strings.{is_empty}
use Rattle.css_parser.specs.Refusals.{or_else, if_refused, is_of_type, needs_element, piece_refusal, form_refusal, inner_refusal, inners_refusal, member_refusal, members_refusal, forms_refusal, compound_refusal, selector_refusal, refusal}
use Rattle.css_parser.specs.Lists.{list_of}
use Rattle.css_parser.specs.Selecting.{Accepts, IsUnread, IsRefused, IsFault, IsUnlisted}
use Rattle.css_parser.specs.inner.Reading.{IsListRead}
use Rattle.css_parser.proofs.ListLemmas.{reads_same}

-- what may be refused
abbrev pub IsRefusal : SelectorFault → Type 0
IsRefusal fault.Prefix = Unit {0}
IsRefusal fault.UnknownPseudo = Unit {0}
IsRefusal fault.Nested = Unit {0}
IsRefusal fault.OfType = Unit {0}
IsRefusal fault.Number = Unit {0}
IsRefusal fault.PseudoElement = Unit {0}
IsRefusal _ = ⊥

abbrev pub MayRefuse : Option SelectorFault → Type 0
MayRefuse None = Unit {0}
MayRefuse (Some f) = IsRefusal f

either : (o p : Option SelectorFault) → MayRefuse o → MayRefuse p → MayRefuse (or_else o p)
either None p h g = g
either (Some f) p h g = h

when : (b : Bool) (f : SelectorFault) → IsRefusal f → MayRefuse (if_refused b f)
when true f h = h
when false f h = tt

piece_kind : (nameless last : Bool) (p : Piece) → MayRefuse (piece_refusal nameless last p)
piece_kind nameless last (piece.Plain t) = when (needs_element t && nameless) fault.OfType tt
piece_kind nameless last piece.Prefixed = tt
piece_kind nameless last piece.Unknown = tt
piece_kind nameless last (piece.Large position) = cases_if (is_of_type position && nameless) fault.OfType fault.Number IsRefusal (λ _. tt) (λ _. tt)
piece_kind nameless last (piece.Tail t) = when (not last) fault.PseudoElement tt
piece_kind nameless last piece.Strange = tt

abbrev FormKind : Form → Type 0
FormKind x = (nameless last : Bool) → MayRefuse (form_refusal nameless last x)

abbrev InnerKind : Inner → Type 0
InnerKind x = (nameless : Bool) → MayRefuse (inner_refusal nameless x)

abbrev MemberKind : Member → Type 0
MemberKind x = (nameless : Bool) → MayRefuse (member_refusal nameless x)

each_forms : (nameless last : Bool) (xs : List ((x : Form) × FormKind x)) → MayRefuse (forms_refusal nameless last (map (λ e. e.0) xs))
each_forms nameless last [] = tt
each_forms nameless last (e ∷ xs) = either (form_refusal nameless (last && is_empty (map (λ d. d.0) xs)) e.0) (forms_refusal nameless last (map (λ d. d.0) xs)) (e.1 nameless (last && is_empty (map (λ d. d.0) xs))) (each_forms nameless last xs)

each_inners : (nameless : Bool) (xs : List ((x : Inner) × InnerKind x)) → MayRefuse (inners_refusal nameless (map (λ e. e.0) xs))
each_inners nameless [] = tt
each_inners nameless (e ∷ xs) = either (inner_refusal nameless e.0) (inners_refusal nameless (map (λ d. d.0) xs)) (e.1 nameless) (each_inners nameless xs)

each_members : (nameless : Bool) (xs : List ((x : Member) × MemberKind x)) → MayRefuse (members_refusal nameless (map (λ e. e.0) xs))
each_members nameless [] = tt
each_members nameless (e ∷ xs) = either (member_refusal nameless e.0) (members_refusal nameless (map (λ d. d.0) xs)) (e.1 nameless) (each_members nameless xs)

form_step_kind : (y : open_.Form-F ((x : Form) × FormKind x) ((x : Inner) × InnerKind x) ((x : Member) × MemberKind x)) → FormKind (roll-Form (folds.map-Form _ _ _ _ _ _ (λ e. e.0) (λ e. e.0) (λ e. e.0) y))
form_step_kind (open_.One p) nameless last = subst MayRefuse (sym (roll_one nameless last p)) (piece_kind nameless last p)
form_step_kind (open_.Choice w xs) nameless last = subst MayRefuse (sym (roll_choice nameless last w (map (λ e. e.0) xs))) (each_members (is_has w || nameless) xs)
form_step_kind open_.Deep nameless last = subst MayRefuse (sym (roll_deep nameless last)) tt

inner_step_kind : (x : open_.Inner-F Form Inner Member) (xs : List ((x : Form) × FormKind x)) → map (λ e. e.0) xs ≡ x.forms → InnerKind (roll-Inner x)
inner_step_kind x xs is nameless =
    let there : MayRefuse (forms_refusal (nameless && is_none x.element) false x.forms) = subst (λ ys. MayRefuse (forms_refusal (nameless && is_none x.element) false ys)) is (each_forms (nameless && is_none x.element) false xs) in
    subst MayRefuse (sym (inner_is nameless (roll-Inner x) ∙ ap (λ (d : open_.Inner-F Form Inner Member). or_else (if_refused d.prefixed fault.Prefix) (forms_refusal (nameless && is_none d.element) false d.forms)) (views.out-roll-Inner x)))
    (either (if_refused x.prefixed fault.Prefix) _ (when x.prefixed fault.Prefix tt) there)

member_step_kind : (x : open_.Member-F Form Inner Member) (xs : List ((x : Inner) × InnerKind x)) → map (λ e. e.0) xs ≡ x.parts → MemberKind (roll-Member x)
member_step_kind x xs is nameless =
    subst MayRefuse (sym (member_is nameless (roll-Member x) ∙ ap (λ (d : open_.Member-F Form Inner Member). inners_refusal nameless d.parts) (views.out-roll-Member x)))
    (subst (λ ys. MayRefuse (inners_refusal nameless ys)) is (each_inners nameless xs))

form_kind : (x : Form) → FormKind x
form_kind = ind-Form FormKind InnerKind MemberKind (λ x y is. subst (λ z. FormKind (roll-Form z)) is (form_step_kind y)) (λ x y is. inner_step_kind x y.forms (ap (λ (d : open_.Inner-F Form Inner Member). d.forms) is)) (λ x y is. member_step_kind x y.parts (ap (λ (d : open_.Member-F Form Inner Member). d.parts) is))

forms_kind : (nameless last : Bool) (xs : List Form) → MayRefuse (forms_refusal nameless last xs)
forms_kind nameless last [] = tt
forms_kind nameless last (x ∷ xs) = either (form_refusal nameless (last && is_empty xs) x) (forms_refusal nameless last xs) (form_kind x nameless (last && is_empty xs)) (forms_kind nameless last xs)

compound_kind : (last : Bool) (c : Compound) → MayRefuse (compound_refusal last c)
compound_kind last c = either (if_refused c.prefixed fault.Prefix) (forms_refusal (is_none c.element) last c.forms) (when c.prefixed fault.Prefix tt) (forms_kind (is_none c.element) last c.forms)

selector_kind : (cs : List Compound) → MayRefuse (selector_refusal cs)
selector_kind [] = tt
selector_kind (c ∷ cs) = either (compound_refusal (is_empty cs) c) (selector_refusal cs) (compound_kind (is_empty cs) c) (selector_kind cs)

pub list_kind : (ss : List (List Compound)) → MayRefuse (refusal ss)
list_kind [] = tt
list_kind (s ∷ ss) = either (selector_refusal s) (refusal ss) (selector_kind s) (list_kind ss)

-- what the code gives
pub accepted : (text : List ℕ) (ts : List CssToken) (found : List (List Compound)) (list : SelectorList) → Lexes text ts → Reads text ts found → refusal found ≡ None → list ≡ list_of found → Accepts text list
accepted text ts found list h g r e = record { tokens = ts; spelled = h; found = found; reads = g; allowed = r; is_list = e }

-- the same, where each list was looked at as a slice
pub accepted_of : (text : List ℕ) (ts us : List CssToken) (found vs ws : List (List Compound)) (o : Option SelectorFault) (list : SelectorList)
    → Lexes text ts → us ≡ ts → Reads text us found → vs ≡ found → ((o ≡ refusal vs) × (o ≡ None)) → ws ≡ found → list ≡ list_of ws → Accepts text list
accepted_of text ts us found vs ws o list h e g d r f is =
    record { tokens = ts; spelled = h; found = found; reads = subst (λ x. Reads text x found) e g; allowed = ap refusal (sym d) ∙ sym r.0 ∙ r.1; is_list = is ∙ ap list_of f }

pub unlexed : (text : List ℕ) (f : SelectorFault) → IsLexed text (Err f) → IsUnlisted text f
unlexed text fault.Long h = h
unlexed text fault.Text h = h
unlexed text fault.Memory h = tt
unlexed text _ h = absurd h

pub unread : (text : List ℕ) (ts : List CssToken) (f : SelectorFault) → Lexes text ts → IsListRead text ts (Err f) → IsUnlisted text f
unread text ts fault.Syntax h g = record { tokens = ts; spelled = h; unread = g }
unread text ts fault.Memory h g = tt
unread text ts _ h g = absurd g

listed : (text : List ℕ) (f : SelectorFault) → IsRefusal f → IsRefused text f → IsUnlisted text f
listed text fault.Prefix k h = h
listed text fault.UnknownPseudo k h = h
listed text fault.Nested k h = h
listed text fault.OfType k h = h
listed text fault.Number k h = h
listed text fault.PseudoElement k h = h
listed text _ k h = absurd k

pub refused : (text : List ℕ) (ts : List CssToken) (found : List (List Compound)) (f : SelectorFault) → Lexes text ts → Reads text ts found → refusal found ≡ Some f → IsUnlisted text f
refused text ts found f h g r = listed text f (subst MayRefuse r (list_kind found)) (record { tokens = ts; spelled = h; found = found; reads = g; refused = r })

-- one answer for a text
found_same : (text : List ℕ) (ts us : List CssToken) (found other : List (List Compound)) → Lexes text ts → Lexes text us → Reads text ts found → Reads text us other → found ≡ other
found_same text ts us found other h g r s = reads_same text ts found other r (subst (λ x. Reads text x other) (sym (one_list text ts us h g)) s)

pub one_reading : (text : List ℕ) (list other : SelectorList) → Accepts text list → Accepts text other → list ≡ other
one_reading text list other h g = h.is_list ∙ ap list_of (found_same text h.tokens g.tokens h.found g.found h.spelled g.spelled h.reads g.reads) ∙ sym g.is_list

data Cause (text : List ℕ) (f : SelectorFault) : Type 0 where
  is_long : f ≡ fault.Long → most_selector < length text → Cause text f
  stops : f ≡ fault.Text → Stops text → Cause text f
  is_unread : f ≡ fault.Syntax → IsUnread text → Cause text f
  is_refused : IsRefused text f → Cause text f

cause : (text : List ℕ) (f : SelectorFault) → IsFault text f → Cause text f
cause text fault.Long h = is_long refl h
cause text fault.Text h = stops refl h
cause text fault.Syntax h = is_unread refl h
cause text fault.XPathLong h = absurd h
cause text fault.Memory h = absurd h
cause text fault.Prefix h = is_refused h
cause text fault.UnknownPseudo h = is_refused h
cause text fault.Nested h = is_refused h
cause text fault.OfType h = is_refused h
cause text fault.Number h = is_refused h
cause text fault.PseudoElement h = is_refused h

too_long : {A : Type 0} (text : List ℕ) → most_selector < length text → length text ≤ most_selector → A
too_long text h g = absurd (omega arith)

not_unread : (text : List ℕ) (h : IsUnread text) (ts : List CssToken) (found : List (List Compound)) → Lexes text ts → Reads text ts found → ⊥
not_unread text h ts found g r = h.unread found (subst (λ x. Reads text x found) (sym (one_list text h.tokens ts h.spelled g)) r)

some_same : (f g : SelectorFault) → Some f ≡ Some g → f ≡ g
some_same f g e = cc

refused_same : (text : List ℕ) (f g : SelectorFault) → IsRefused text f → IsRefused text g → f ≡ g
refused_same text f g h k = some_same f g (sym h.refused ∙ ap refusal (found_same text h.tokens k.tokens h.found k.found h.spelled k.spelled h.reads k.reads) ∙ k.refused)

one_cause : (text : List ℕ) (f g : SelectorFault) → Cause text f → Cause text g → f ≡ g
one_cause text f g (is_long e h) (is_long d k) = e ∙ sym d
one_cause text f g (is_long e h) (stops d k) = too_long text h k.fits
one_cause text f g (is_long e h) (is_unread d k) = too_long text h k.spelled.fits
one_cause text f g (is_long e h) (is_refused k) = too_long text h k.spelled.fits
one_cause text f g (stops e h) (is_long d k) = too_long text k h.fits
one_cause text f g (stops e h) (stops d k) = e ∙ sym d
one_cause text f g (stops e h) (is_unread d k) = absurd (not_both text k.tokens k.spelled h)
one_cause text f g (stops e h) (is_refused k) = absurd (not_both text k.tokens k.spelled h)
one_cause text f g (is_unread e h) (is_long d k) = too_long text k h.spelled.fits
one_cause text f g (is_unread e h) (stops d k) = absurd (not_both text h.tokens h.spelled k)
one_cause text f g (is_unread e h) (is_unread d k) = e ∙ sym d
one_cause text f g (is_unread e h) (is_refused k) = absurd (not_unread text h k.tokens k.found k.spelled k.reads)
one_cause text f g (is_refused h) (is_long d k) = too_long text k h.spelled.fits
one_cause text f g (is_refused h) (stops d k) = absurd (not_both text h.tokens h.spelled k)
one_cause text f g (is_refused h) (is_unread d k) = absurd (not_unread text k h.tokens h.found h.spelled h.reads)
one_cause text f g (is_refused h) (is_refused k) = refused_same text f g h k

pub one_fault : (text : List ℕ) (f g : SelectorFault) → IsFault text f → IsFault text g → f ≡ g
one_fault text f g h k = one_cause text f g (cause text f h) (cause text g k)

no_cause : (text : List ℕ) (list : SelectorList) (f : SelectorFault) → Accepts text list → Cause text f → ⊥
no_cause text list f a (is_long e h) = too_long text h a.spelled.fits
no_cause text list f a (stops e h) = not_both text a.tokens a.spelled h
no_cause text list f a (is_unread e h) = not_unread text h a.tokens a.found a.spelled a.reads
no_cause text list f a (is_refused h) =
    let e : None ≡ Some f = sym a.allowed ∙ ap refusal (found_same text a.tokens h.tokens a.found h.found a.spelled h.spelled a.reads h.reads) ∙ h.refused in cc

pub list_or_fault : (text : List ℕ) (list : SelectorList) (f : SelectorFault) → Accepts text list → IsFault text f → ⊥
list_or_fault text list f a h = no_cause text list f a (cause text f h)
