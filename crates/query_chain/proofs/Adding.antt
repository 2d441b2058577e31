-- How found texts grow.
use Rattle.std.proofs.Common.{◌≡◌, ℕ, ◌+◌, ◌-◌, ◌<◌, ◌≤◌, ◌++◌, Bool, true, false, List, [], ◌∷◌, length, refl, sym, ◌∙◌, ap, arith, inl, inr, append_assoc, encode_utf8_all}
use Rattle.std.specs.Prelude.{◌⊎◌}
use Rattle.std.specs.Str.{chars, IsUtf8}
use Rattle.std.proofs.lemmas.List.{append-nil, length-append}
use Rattle.std.proofs.lemmas.List.Sums.{sum_by-append}
use Rattle.text_base.proofs.Text.{encode-chars}
use Rattle.query_chain.specs.declared.limits.Limits.{Limits}
use Rattle.query_chain.specs.declared.found.Found.{Found}
use Rattle.query_chain.specs.Items.{bytes_of}
use Rattle.query_chain.specs.inner.Found.{Adds}

pub bytes-append : (xs ys : List (List ℕ)) → bytes_of (xs ++ ys) ≡ bytes_of xs + bytes_of ys
bytes-append xs ys = sum_by-append (λ t. length (encode_utf8_all t)) xs ys

pub bytes_of_one : (t : List ℕ) → IsUtf8 t → bytes_of (chars t ∷ []) ≡ length t
bytes_of_one t u = let e = ap length (encode-chars t u) in omega (arith, e)

-- one text more, which is not kept
pub one_over : (limits : Limits) (f g : Found) (t : List ℕ) → IsUtf8 t → f.count < limits.items → g.count ≡ f.count + 1 → g.bytes ≡ f.bytes → g.is_over ≡ true →
    limits.bytes - f.bytes < length t → Adds limits f g (chars t ∷ [])
one_over limits f g t u few count bytes over more = record {
  count = count;
  few = λ _. omega arith;
  within = λ h. omega arith;
  kept = λ stays. let e : true ≡ false = sym over ∙ stays in cc;
  over = λ _. inr (let e = bytes_of_one t u in omega (arith, e));
}

-- one text more, which is kept
pub one_kept : (limits : Limits) (f g : Found) (t : List ℕ) → IsUtf8 t → f.count < limits.items → g.count ≡ f.count + 1 → f.is_over ≡ false → g.is_over ≡ false →
    g.texts.items ≡ f.texts.items ++ chars t ∷ [] → g.bytes ≡ f.bytes + length t → length t ≤ limits.bytes - f.bytes → Adds limits f g (chars t ∷ [])
one_kept limits f g t u few count was is texts bytes fits = record {
  count = count;
  few = λ _. omega arith;
  within = λ h. omega arith;
  kept = λ _. (was, texts, bytes ∙ ap (λ n. f.bytes + n) (sym (bytes_of_one t u)));
  over = λ rises. let e : false ≡ true = sym is ∙ rises in cc;
}

pub adds_none : (limits : Limits) (f : Found) → Adds limits f f []
adds_none limits f = record {
  count = omega arith;
  few = λ h. h;
  within = λ h. h;
  kept = λ stays. (stays, sym (append-nil f.texts.items), omega arith);
  over = λ rises. inl rises;
}

over_both : (limits : Limits) (f g h : Found) (xs ys : List (List ℕ)) → Adds limits f g xs → Adds limits g h ys → (b : Bool) → g.is_over ≡ b → h.is_over ≡ true →
    (f.is_over ≡ true) ⊎ (limits.bytes < f.bytes + bytes_of (xs ++ ys))
over_both limits f g h xs ys p q true e rises = first_over (p.over e) where
  first_over : (f.is_over ≡ true) ⊎ (limits.bytes < f.bytes + bytes_of xs) → (f.is_over ≡ true) ⊎ (limits.bytes < f.bytes + bytes_of (xs ++ ys))
  first_over (inl was) = inl was
  first_over (inr more) = inr (let s = bytes-append xs ys in omega (arith, s))
over_both limits f g h xs ys p q false e rises = then_over (q.over rises) where
  then_over : (g.is_over ≡ true) ⊎ (limits.bytes < g.bytes + bytes_of ys) → (f.is_over ≡ true) ⊎ (limits.bytes < f.bytes + bytes_of (xs ++ ys))
  then_over (inl was) = let stays : false ≡ true = sym e ∙ was in cc
  then_over (inr more) = inr (let s = bytes-append xs ys in let k = (p.kept e).2 in omega (arith, s, k))

-- texts that are found after others
pub adds_both : (limits : Limits) (f g h : Found) (xs ys : List (List ℕ)) → Adds limits f g xs → Adds limits g h ys → Adds limits f h (xs ++ ys)
adds_both limits f g h xs ys p q = record {
  count = let n = length-append xs ys in let a = p.count in let b = q.count in omega (arith, n, a, b);
  few = λ k. q.few (p.few k);
  within = λ k. q.within (p.within k);
  kept = λ stays.
      let second = q.kept stays in
      let first = p.kept second.0 in
      (first.0, second.1 ∙ (ap (λ ts. ts ++ ys) first.1 ∙ append_assoc f.texts.items xs ys), let s = bytes-append xs ys in let a = first.2 in let b = second.2 in omega (arith, s, a, b));
  over = λ rises. over_both limits f g h xs ys p q g.is_over refl rises;
}
