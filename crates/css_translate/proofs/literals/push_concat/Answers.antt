use Rattle.std.proofs.Common.{codes, sym, subst, ◌≡◌, ◌++◌, List, ℕ, OnOk, string_bytes}
use Rattle.css_printed.specs.Literals.{listed, quoted_runs, literal_text}
use Rattle.css_printed.proofs.LiteralRuns.{shown_runs}
use Rattle.css_translate.proofs.Pushes.{three}
use Rattle.css_translate.proofs.literals.push_concat.Goals as goal

pub returns : goal.returns
returns c =
    let text : literal_text c.args.text.now ≡ codes "concat(" ++ (listed (quoted_runs c.args.text.now) ++ codes ")") = shown_runs c.args.text.now c.requires.apostrophe c.requires.double in
    let P : List ℕ → Type 0 = λ t. OnOk c.push-2.result (string_bytes c.push-2.new.out ≡ string_bytes c.args.out.now ++ t) in
    subst P (sym text) (three _ _ (codes "concat(") _ _ _ _ _ c.in_ok-push.ensures c.in_ok-push_runs.ensures c.push-2.ensures)
