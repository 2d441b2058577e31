use Rattle.std.proofs.Common.{◌≡◌, sym, ap, arith, decimal}
use Rattle.std.specs.Fmt.{digits}
use Rattle.extract_call.proofs.bulk.digit.Goals as goal

pub returns-in-0 : goal.returns-in-0
unfolding digits
returns-in-0 c = sym (ap decimal c.in-0.is)

pub returns-in-1 : goal.returns-in-1
unfolding digits
returns-in-1 c = sym (ap decimal c.in-1.is)

pub returns-in-2 : goal.returns-in-2
unfolding digits
returns-in-2 c = sym (ap decimal c.in-2.is)

pub returns-in-3 : goal.returns-in-3
unfolding digits
returns-in-3 c = sym (ap decimal c.in-3.is)

pub returns-in-4 : goal.returns-in-4
unfolding digits
returns-in-4 c = sym (ap decimal c.in-4.is)

pub returns-in-5 : goal.returns-in-5
unfolding digits
returns-in-5 c = sym (ap decimal c.in-5.is)

pub returns-in_default : goal.returns-in_default
unfolding digits
returns-in_default c =
    let six : c.args.n ≡ 6 = omega (arith, c.in_default, c.requires) in
    sym (ap decimal six)
