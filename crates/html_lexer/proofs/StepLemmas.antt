-- Steps put together.
use Rattle.std.proofs.Common.{◌≡◌, ℕ, ◌+◌, List, true, get_or, sym, subst, eq-eqb, Bool}
use Rattle.std.specs.Prelude.{◌==◌}
use Rattle.std.specs.Bool.{MatchBool}
use Rattle.text_base.specs.Text.{run_end, is_letter}
use Rattle.html_lexer.specs.Kinds.{is_name_byte}
use Rattle.html_lexer.specs.State.{Reading, AttrReading}
use Rattle.html_lexer.specs.declared.tags.Attribute.{Attribute}
use Rattle.html_lexer.specs.declared.tags.AttrStep.{AttrStep}
use Rattle.html_lexer.specs.declared.tags.AttrStep.TheVariants.{Reads}
use Rattle.html_lexer.specs.Tags.{attr_at}
use Rattle.html_lexer.specs.Attributes.{IsLast, IsAttrs}
use Rattle.html_lexer.specs.Steps.{StartAt, MarkupAt, StepAt, other_at}
use Rattle.html_lexer.specs.declared.steps.Step.{Step}
use Rattle.html_lexer.specs.declared.steps.Step.TheVariants.{Gives}
use Rattle.html_lexer.specs.declared.steps.TokenAt.{TokenAt}
use Rattle.html_lexer.specs.Tokens.{Tok, tok_at, start_tok, end_of, name_after}
use Rattle.html_lexer.specs.Lexing.{Begins}
use Rattle.html_lexer.proofs.PlainLemmas.{both}

pub markup_start : (text : List ℕ) (i n : ℕ) (step : Step) → get_or text i 0 ≡ 60 → is_letter (get_or text (i + 1) 0) ≡ true → n ≡ run_end is_name_byte text (i + 1) → StartAt text i n step → MarkupAt text i step
markup_start text i n step lt letter e h =
    subst (λ b. MatchBool b (StartAt text i (run_end is_name_byte text (i + 1)) step) (step ≡ other_at text i))
    (sym (both (get_or text i 0 == 60) (is_letter (get_or text (i + 1) 0)) true (eq-eqb (get_or text i 0) 60 lt) letter))
    (subst (λ m. StartAt text i m step) e h)

-- the token that a call gives, by what the lexer held
pub given : (old inside : Reading) (parts : TokenAt) (t : Tok) → inside ≡ old → StepAt inside.text inside.name inside.at (Gives parts) → t ≡ tok_at inside.text inside.at parts → Begins old.text old.name old.at t
given old inside parts t e step is = subst (λ (r : Reading). Begins r.text r.name r.at t) e (parts, step, is)

-- where the lexer stands after the token
pub gone_on : (old inside : Reading) (at : ℕ) (name : List ℕ) (t : Tok) → inside ≡ old → at ≡ end_of t → name ≡ name_after t
    → (let new : Reading = record { text = inside.text; at = at; name = name } in new) ≡ record { text = old.text; at = end_of t; name = name_after t }
gone_on old inside at name t e p q = λ i. record { text = (e i).text; at = p i; name = q i }

-- the same of attributes
pub given_attr : (old inside : AttrReading) (a : Attribute) → inside ≡ old → Reads a ≡ attr_at inside.text inside.at → attr_at old.text old.at ≡ Reads a
given_attr old inside a e step = subst (λ (r : AttrReading). attr_at r.text r.at ≡ Reads a) e (sym step)

pub last_attr : (old inside : AttrReading) (step : AttrStep) → inside ≡ old → IsLast step → step ≡ attr_at inside.text inside.at → IsLast (attr_at old.text old.at)
last_attr old inside step e none is = subst (λ (r : AttrReading). IsLast (attr_at r.text r.at)) e (subst IsLast is none)

-- what a start tag gives as its attributes may be read
pub attrs_of : (text before name attrs : List ℕ) (at from to : ℕ) (slash : Bool) → Begins text before at (start_tok from to name attrs slash) → IsAttrs attrs
attrs_of text before name attrs at from to slash h = (text, before, name, at, from, to, slash, h)
