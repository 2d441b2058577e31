use Rattle.std.proofs.Common.{◌≡◌, [], get_or, sym, ◌∙◌, ap, subst, IfOk, arith}
use Rattle.std.specs.Str.{chars}
use Rattle.doc_model.specs.StringValue.{string_value}
use Rattle.xpath_values.specs.declared.value.Compare.TheVariants as op
use Rattle.xpath_values.specs.declared.value.Value.TheVariants.{Nodes}
use Rattle.xpath_values.specs.Compares as compares
use Rattle.xpath_parser.specs.Conversions.{fits, row_fits, fits_row}
use Rattle.xpath_functions.proofs.Lists.{no_items}
use Rattle.xpath_functions.proofs.Pairs.{nothing_fits, others, some_other}
use Rattle.xpath_functions.proofs.comparisons.differ.Goals as goal

pub returns-then-xs-eq0 : goal.returns-then-xs-eq0
returns-then-xs-eq0 g c =
    let none : c.args.xs.now ≡ [] = no_items c.args.xs.now c.if-xs-eq0.true in
    sym (ap (λ v. fits (g.T.Tree.document c.args.tree.now) op.Unequal (Nodes v) (Nodes c.args.ys.now)) none)

pub returns-then-ys-eq0 : goal.returns-then-ys-eq0
returns-then-ys-eq0 g c =
    let none : c.args.ys.now ≡ [] = no_items c.args.ys.now c.if-ys-eq0.true in
    sym (ap (λ v. fits (g.T.Tree.document c.args.tree.now) op.Unequal (Nodes c.args.xs.now) (Nodes v)) none ∙ nothing_fits c.args.xs.now)

pub returns-then-branch : goal.returns-then-branch
returns-then-branch g c =
    let doc = g.T.Tree.document c.args.tree.now in
    let xs = c.args.xs.now in
    let first : chars c.as_str.result.now ≡ string_value doc (get_or xs 0 0) = c.as_str.ensures.chars ∙ c.in_ok-text.ensures in
    sym (some_other (string_value doc) xs c.args.ys.now (omega (arith, c.if-xs-eq0.false)) (omega (arith, c.if-ys-eq0.false))
    (ap (λ s. row_fits doc op.Unequal xs (compares.chars s)) (sym first) ∙ sym c.in_ok-row_fits.ensures ∙ c.if-branch.true))

pub returns : goal.returns
returns g c =
    let doc = g.T.Tree.document c.args.tree.now in
    let xs = c.args.xs.now in
    let ys = c.args.ys.now in
    let first : chars c.as_str.result.now ≡ string_value doc (get_or xs 0 0) = c.as_str.ensures.chars ∙ c.in_ok-text.ensures in
    let same = ap (λ s. row_fits doc op.Unequal xs (compares.chars s)) (sym first) ∙ sym c.in_ok-row_fits.ensures ∙ c.if-branch.false in
    subst (λ v. IfOk c.fits_row.result (λ r. r ≡ v))
    (ap (λ s. fits_row doc op.Unequal (compares.chars s) ys) first ∙ others (string_value doc) xs ys (omega (arith, c.if-xs-eq0.false)) same)
    c.fits_row.ensures
