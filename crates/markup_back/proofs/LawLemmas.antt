-- The law: what a page that is UTF-8 builds is built by its canonical markup.
use Rattle.std.proofs.Common.{◌≡◌, false, [], sym, ◌∙◌, ap, subst, None, encode_utf8_all}
use Rattle.html_reader.specs.Forest.{marks}
use Rattle.html_reader.specs.Places.{Place, outside, place_marks, place_grown, all_rows}
use Rattle.html_reader.specs.Words.{tokens_of, IsFull}
use Rattle.html_reader.specs.Reading.{Builds, is_fragment}
use Rattle.html_reader.specs.Pages.{BuildsPage}
use Rattle.html_reader.proofs.CleanLemmas.{whole_tree, tokens_back}
use Rattle.html_reader.proofs.InkLemmas.{ink, IsInk}
use Rattle.html_reader.proofs.InkLawLemmas.{IsTextual, page_textual, ink_spells, whole_fragment}
use Rattle.html_reader.proofs.PageInkLemmas.{page_ink}
use Rattle.markup_out.specs.Markup.{canonical}
use Rattle.markup_back.specs.Laws.{CanonicalBuilds}
use Rattle.markup_back.proofs.CanonicalLemmas.{canonical_ink}
use Rattle.markup_back.proofs.SpeltLemmas.{spelt_of}

pub canonical_builds : CanonicalBuilds
canonical_builds page doc utf8 b =
    let made = is_fragment b.tokens in
    let back = tokens_back made b.tokens doc b.builds in
    let f = back.0 in
    let g = whole_tree made f in
    let place : b.builds.place ≡ outside f = back.2 in
    let spells : tokens_of (marks f) ≡ b.tokens = ap (λ (p : Place). tokens_of (place_marks p)) (sym place) ∙ b.builds.leads.spelled in
    let full : IsFull (marks f) None = subst (λ p. IsFull (place_marks p) None) place b.builds.leads.full in
    let inks : IsInk g = page_ink page b.tokens made f utf8 b.spelled spells full in
    let textual : IsTextual g = page_textual page b.tokens made f utf8 b.spelled spells in
    let rows : doc ≡ all_rows (place_grown made (outside f)) = sym b.builds.rows_are ∙ ap (λ p. all_rows (place_grown made p)) place in
    let bytes : encode_utf8_all (canonical doc) ≡ ink [] g = canonical_ink made f doc (spelt_of g inks textual) rows in
    let none : is_fragment (tokens_of (marks g)) ≡ false = whole_fragment made f (ap is_fragment spells) in
    let written : BuildsPage (ink [] g) doc = record { tokens = tokens_of (marks g); spelled = ink_spells g inks; builds = subst (λ m. Builds m (tokens_of (marks g)) doc) (sym none) back.1 } in
    subst (λ bs. BuildsPage bs doc) (sym bytes) written
