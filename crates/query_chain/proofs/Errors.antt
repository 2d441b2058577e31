-- The error of a call that is handed on.
use Rattle.std.proofs.Common.{◌≡◌, ap, Ok, Err}
use Rattle.std.specs.Prelude.{Result}

err_or : {T E : Type 0} → E → Result T E → E
err_or d (Ok x) = d
err_or d (Err e) = e

-- the same error beside values of another type
pub moved : {T U E : Type 0} (x y : E) → ◌≡◌ {A = Result T E} (Err x) (Err y) → ◌≡◌ {A = Result U E} (Err x) (Err y)
unfolding err_or
moved x y h = ap Err (ap (err_or x) h)
