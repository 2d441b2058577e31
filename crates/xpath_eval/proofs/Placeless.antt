-- Expressions whose value is the same at each position, and expressions that are no number.
use Rattle.std.proofs.Common.{◌≡◌, refl, sym, ◌∙◌, ap, ℕ, Bool, true, false, ◌||◌, ◌&&◌, cond, List, [], ◌∷◌, ◌++◌, map, get_or, ℤ}
use Rattle.std.specs.Prelude.{filter}
use Rattle.std.specs.List.{All, list_any, list_all}
use Rattle.std.proofs.lemmas.List.Elements.{All-head, All-tail}
use Rattle.doc_model.specs.Document.{Document, rows}
use Rattle.xpath_values.specs.declared.value.Value.{Value}
use Rattle.xpath_values.specs.declared.value.Value.TheVariants.{Nodes, Num, Bool as Truth}
use Rattle.xpath_parser.specs.declared.expression.Expr.{Expr}
use Rattle.xpath_parser.specs.declared.expression.Expr.TheVariants as e
use Rattle.xpath_parser.specs.declared.expression.Start.{Start}
use Rattle.xpath_parser.specs.declared.expression.Start.TheVariants.{Here, Root, From}
use Rattle.xpath_parser.specs.declared.expression.Step.{Step}
use Rattle.xpath_parser.specs.declared.expression.Operand.{Operand, out-Operand}
use Rattle.xpath_parser.specs.declared.expression.Infix.{Infix}
use Rattle.xpath_parser.specs.declared.expression.Infix.TheVariants as op
use Rattle.xpath_parser.specs.declared.expression.Func.{Func}
use Rattle.xpath_parser.specs.declared.expression.Func.TheVariants as f
use Rattle.xpath_parser.specs.Conversions.{rows_of, truth_of, number_of}
use Rattle.xpath_parser.specs.Functions.{Context, called}
use Rattle.xpath_parser.specs.Denote.{denote, walk_of, arm_at, rows_in, has, joined, applied, path, kept, signed}
use Rattle.xpath_parser.proofs.Equations as eqs
use Rattle.xpath_eval.specs.inner.Tests.{IsPlaceless, IsPlacelessStart, EachPlaceless, EachOperandPlaceless, IsNoNumber, EndsCompared, is_number, is_placed, gives_number, compares}

any_same : {A : Type 0} (p q : A → Bool) (xs : List A) → All (λ x. p x ≡ q x) xs → list_any p xs ≡ list_any q xs
any_same p q [] h = refl
any_same p q (x ∷ xs) h = ap (λ b. b || list_any p xs) (All-head (λ v. p v ≡ q v) x xs h) ∙ ap (λ b. q x || b) (any_same p q xs (All-tail (λ v. p v ≡ q v) x xs h))

all_same : {A : Type 0} (p q : A → Bool) (xs : List A) → All (λ x. p x ≡ q x) xs → list_all p xs ≡ list_all q xs
all_same p q [] h = refl
all_same p q (x ∷ xs) h = ap (λ b. b && list_all p xs) (All-head (λ v. p v ≡ q v) x xs h) ∙ ap (λ b. q x && b) (all_same p q xs (All-tail (λ v. p v ≡ q v) x xs h))

map_same : {A B : Type 0} (p q : A → B) (xs : List A) → All (λ x. p x ≡ q x) xs → map p xs ≡ map q xs
map_same p q [] h = refl
map_same p q (x ∷ xs) h = ap (λ b. b ∷ map p xs) (All-head (λ v. p v ≡ q v) x xs h) ∙ ap (λ r. q x ∷ r) (map_same p q xs (All-tail (λ v. p v ≡ q v) x xs h))

filter_same : (p q : ℕ → Bool) (xs : List ℕ) → ((y : ℕ) → p y ≡ q y) → filter p xs ≡ filter q xs
filter_same p q [] h = refl
filter_same p q (x ∷ xs) h = ap (λ b. cond b (x ∷ filter p xs) (filter p xs)) (h x) ∙ ap (λ r. cond (q x) (x ∷ r) r) (filter_same p q xs h)

-- without what asks for a place, a function's value depends on the row alone
called_at : (doc : Document) (g : Func) (vs : List Value) (c : Context) → is_placed g ≡ false → called doc g vs c ≡ called doc g vs (record { row = c.row; position = 0; size = 0 })
called_at doc f.Last vs c h = cc
called_at doc f.Position vs c h = cc
called_at doc f.Count vs c h = refl
called_at doc f.Id vs c h = refl
called_at doc f.LocalName vs c h = refl
called_at doc f.NamespaceUri vs c h = refl
called_at doc f.Name vs c h = refl
called_at doc f.Str vs c h = refl
called_at doc f.Concat vs c h = refl
called_at doc f.StartsWith vs c h = refl
called_at doc f.Contains vs c h = refl
called_at doc f.SubstringBefore vs c h = refl
called_at doc f.SubstringAfter vs c h = refl
called_at doc f.Substring vs c h = refl
called_at doc f.StringLength vs c h = refl
called_at doc f.NormalizeSpace vs c h = refl
called_at doc f.Translate vs c h = refl
called_at doc f.Boolean vs c h = refl
called_at doc f.Not vs c h = refl
called_at doc f.True vs c h = refl
called_at doc f.False vs c h = refl
called_at doc f.Lang vs c h = refl
called_at doc f.Number vs c h = refl
called_at doc f.Sum vs c h = refl
called_at doc f.Floor vs c h = refl
called_at doc f.Ceiling vs c h = refl
called_at doc f.Round vs c h = refl
called_at doc (f.Stored kind) vs c h = refl

pub called_placeless : (doc : Document) (g : Func) (vs : List Value) (c d : Context) → is_placed g ≡ false → c.row ≡ d.row → called doc g vs c ≡ called doc g vs d
called_placeless doc g vs c d h same =
    called_at doc g vs c h ∙ ap (λ r. called doc g vs (record { row = r; position = 0; size = 0 })) same ∙ sym (called_at doc g vs d h)

-- ---- form by form

values_same : (doc : Document) (es : List Expr) (c d : Context) → EachPlaceless es → c.row ≡ d.row → All (λ x. denote doc x c ≡ denote doc x d) es
values_same doc es c d h same = λ k x l. h k x l doc c d same

truths_same : (doc : Document) (es : List Expr) (c d : Context) → EachPlaceless es → c.row ≡ d.row → All (λ x. truth_of (denote doc x c) ≡ truth_of (denote doc x d)) es
truths_same doc es c d h same = λ k x l. ap truth_of (h k x l doc c d same)

pub or_placeless : (es : List Expr) → EachPlaceless es → IsPlaceless (e.Or es)
or_placeless es h doc c d same =
    eqs.at_or doc es c ∙ ap Truth (any_same (λ x. truth_of (denote doc x c)) (λ x. truth_of (denote doc x d)) es (truths_same doc es c d h same)) ∙ sym (eqs.at_or doc es d)

pub and_placeless : (es : List Expr) → EachPlaceless es → IsPlaceless (e.And es)
and_placeless es h doc c d same =
    eqs.at_and doc es c ∙ ap Truth (all_same (λ x. truth_of (denote doc x c)) (λ x. truth_of (denote doc x d)) es (truths_same doc es c d h same)) ∙ sym (eqs.at_and doc es d)

pub joined_placeless : (first : Expr) (os : List Operand) → IsPlaceless first → EachOperandPlaceless os → IsPlaceless (e.Joined first os)
joined_placeless first os h hs doc c d same =
    eqs.at_joined doc first os c
    ∙ ap (λ vs. joined doc (denote doc first c) vs) (map_same (λ o. arm_at doc o c) (λ o. arm_at doc o d) os (λ k o l. ap {B = Infix × Value} (λ v. ((out-Operand (get_or os k o)).op, v)) (hs k o l doc c d same)))
    ∙ ap (λ v. joined doc v (map (λ o. arm_at doc o d) os)) (h doc c d same)
    ∙ sym (eqs.at_joined doc first os d)

pub minus_placeless : (n : ℕ) (x : Expr) → IsPlaceless x → IsPlaceless (e.Minus n x)
minus_placeless n x h doc c d same = eqs.at_minus doc n x c ∙ ap (λ v. Num (signed n (number_of doc v))) (h doc c d same) ∙ sym (eqs.at_minus doc n x d)

union_same : (doc : Document) (es : List Expr) (c d : Context) → EachPlaceless es → c.row ≡ d.row → rows_in doc es (λ x. rows_of (denote doc x c)) ≡ rows_in doc es (λ x. rows_of (denote doc x d))
unfolding rows_in
union_same doc es c d h same =
    filter_same _ _ (rows doc) (λ y. any_same (λ x. has y (rows_of (denote doc x c))) (λ x. has y (rows_of (denote doc x d))) es (λ k x l. ap (λ v. has y (rows_of v)) (h k x l doc c d same)))

pub union_placeless : (es : List Expr) → EachPlaceless es → IsPlaceless (e.Union es)
union_placeless es h doc c d same = eqs.at_union doc es c ∙ ap Nodes (union_same doc es c d h same) ∙ sym (eqs.at_union doc es d)

pub path_placeless : (start : Start) (ss : List Step) → IsPlacelessStart start → IsPlaceless (e.Path start ss)
path_placeless start ss h doc c d same = eqs.at_path doc start ss c ∙ ap (λ v. Nodes (path doc v (map (walk_of doc) ss))) (h doc c d same) ∙ sym (eqs.at_path doc start ss d)

pub here_placeless : IsPlacelessStart Here
here_placeless doc c d same = eqs.at_here doc c ∙ ap (λ r. r ∷ []) same ∙ sym (eqs.at_here doc d)

pub root_placeless : IsPlacelessStart Root
root_placeless doc c d same = eqs.at_root doc c ∙ sym (eqs.at_root doc d)

pub from_placeless : (x : Expr) → IsPlaceless x → IsPlacelessStart (From x)
from_placeless x h doc c d same = eqs.at_from doc x c ∙ ap rows_of (h doc c d same) ∙ sym (eqs.at_from doc x d)

pub filter_placeless : (x : Expr) (ps : List Expr) → IsPlaceless x → IsPlaceless (e.Filter x ps)
filter_placeless x ps h doc c d same = eqs.at_filter doc x ps c ∙ ap (λ v. Nodes (kept (map (denote doc) ps) (rows_of v))) (h doc c d same) ∙ sym (eqs.at_filter doc x ps d)

pub literal_placeless : (t : List ℕ) → IsPlaceless (e.Literal t)
literal_placeless t doc c d same = eqs.at_literal doc t c ∙ sym (eqs.at_literal doc t d)

pub number_placeless : (n : ℤ) → IsPlaceless (e.Number n)
number_placeless n doc c d same = eqs.at_number doc n c ∙ sym (eqs.at_number doc n d)

pub call_placeless : (g : Func) (es : List Expr) → is_placed g ≡ false → EachPlaceless es → IsPlaceless (e.Call g es)
call_placeless g es plain h doc c d same =
    eqs.at_call doc g es c ∙ ap (λ vs. called doc g vs c) (map_same (λ x. denote doc x c) (λ x. denote doc x d) es (values_same doc es c d h same))
    ∙ called_placeless doc g (map (λ x. denote doc x d) es) c d plain same ∙ sym (eqs.at_call doc g es d)

-- ---- expressions that are no number

called_no_number : (doc : Document) (g : Func) (vs : List Value) (c : Context) → gives_number g ≡ false → is_number (called doc g vs c) ≡ false
called_no_number doc f.Last vs c h = h
called_no_number doc f.Position vs c h = h
called_no_number doc f.Count vs c h = h
called_no_number doc f.Id vs c h = refl
called_no_number doc f.LocalName vs c h = refl
called_no_number doc f.NamespaceUri vs c h = refl
called_no_number doc f.Name vs c h = refl
called_no_number doc f.Str vs c h = refl
called_no_number doc f.Concat vs c h = refl
called_no_number doc f.StartsWith vs c h = refl
called_no_number doc f.Contains vs c h = refl
called_no_number doc f.SubstringBefore vs c h = refl
called_no_number doc f.SubstringAfter vs c h = refl
called_no_number doc f.Substring vs c h = refl
called_no_number doc f.StringLength vs c h = h
called_no_number doc f.NormalizeSpace vs c h = refl
called_no_number doc f.Translate vs c h = refl
called_no_number doc f.Boolean vs c h = refl
called_no_number doc f.Not vs c h = refl
called_no_number doc f.True vs c h = refl
called_no_number doc f.False vs c h = refl
called_no_number doc f.Lang vs c h = refl
called_no_number doc f.Number vs c h = h
called_no_number doc f.Sum vs c h = h
called_no_number doc f.Floor vs c h = h
called_no_number doc f.Ceiling vs c h = h
called_no_number doc f.Round vs c h = h
called_no_number doc (f.Stored kind) vs c h = refl

applied_no_number : (doc : Document) (o : Infix) (a b : Value) → compares o ≡ true → is_number (applied doc o a b) ≡ false
applied_no_number doc (op.Compare c) a b h = refl
applied_no_number doc op.Add a b h = cc
applied_no_number doc op.Sub a b h = cc
applied_no_number doc op.Mul a b h = cc
applied_no_number doc op.Mod a b h = cc

joined_no_number : (doc : Document) (v : Value) (before : List Operand) (last : Operand) (c : Context) → compares (out-Operand last).op ≡ true
    → is_number (joined doc v (map (λ o. arm_at doc o c) (before ++ last ∷ []))) ≡ false
joined_no_number doc v [] last c h = applied_no_number doc (out-Operand last).op v (denote doc (out-Operand last).value c) h
joined_no_number doc v (o ∷ os) last c h = joined_no_number doc (applied doc (out-Operand o).op v (denote doc (out-Operand o).value c)) os last c h

pub or_no_number : (es : List Expr) → IsNoNumber (e.Or es)
or_no_number es doc c = ap is_number (eqs.at_or doc es c)

pub and_no_number : (es : List Expr) → IsNoNumber (e.And es)
and_no_number es doc c = ap is_number (eqs.at_and doc es c)

pub compared_no_number : (first : Expr) (os : List Operand) → EndsCompared os → IsNoNumber (e.Joined first os)
compared_no_number first os h doc c =
    ap is_number (eqs.at_joined doc first os c ∙ ap (λ v. joined doc (denote doc first c) (map (λ o. arm_at doc o c) v)) h.all)
    ∙ joined_no_number doc (denote doc first c) h.before h.last c h.compared

pub union_no_number : (es : List Expr) → IsNoNumber (e.Union es)
union_no_number es doc c = ap is_number (eqs.at_union doc es c)

pub path_no_number : (start : Start) (ss : List Step) → IsNoNumber (e.Path start ss)
path_no_number start ss doc c = ap is_number (eqs.at_path doc start ss c)

pub filter_no_number : (x : Expr) (ps : List Expr) → IsNoNumber (e.Filter x ps)
filter_no_number x ps doc c = ap is_number (eqs.at_filter doc x ps c)

pub literal_no_number : (t : List ℕ) → IsNoNumber (e.Literal t)
literal_no_number t doc c = ap is_number (eqs.at_literal doc t c)

pub call_no_number : (g : Func) (es : List Expr) → gives_number g ≡ false → IsNoNumber (e.Call g es)
call_no_number g es h doc c = ap is_number (eqs.at_call doc g es c) ∙ called_no_number doc g (map (λ x. denote doc x c) es) c h
