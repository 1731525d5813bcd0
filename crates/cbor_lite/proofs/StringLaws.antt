-- What `string_at` gives is what the definition of strings says.
use Rattle.std.proofs.Common.{◌≡◌, ◌↔◌, ◌+◌, ◌-◌, ◌<◌, ◌≤◌, IfOk, inl, inr, ℕ, List, ◌++◌, length, take, drop, Result, Ok, Err, refl, sym, ap, ◌∙◌, subst, append_assoc, arith, length-append, length-drop}
use Rattle.std.proofs.lemmas.Bool.{le-ltb, lt-ltb, cases_lt}
use Rattle.std.proofs.lemmas.List.{take-append-drop, length-take-le}
use Rattle.std.proofs.Math.Seq.{take-add, take-append_seam, drop-append_seam}
use Rattle.std.specs.Borrow.{Bor}
use Rattle.cbor_lite.specs.declared.fault.CborFault.{CborFault}
use Rattle.cbor_lite.specs.declared.fault.CborFault.TheVariants.{Kind, Short, NotShortest}
use Rattle.cbor_lite.specs.Head.{head, SpellsHead, HeadFault, AnswersHead, head_at}
use Rattle.cbor_lite.specs.Item.{SpellsString, EndsInsideContent, StringFault, AnswersString, content_at, string_at, lent}
use Rattle.cbor_lite.proofs.HeadLemmas.{AreOctets, head_at-only, head_at-answers, head_at-other, head_at-ends, head_at-long}

StringFault-head : (kind : ℕ) (w : List ℕ) (e : CborFault) → HeadFault kind w e → StringFault kind w e
StringFault-head kind w Kind fault = fault
StringFault-head kind w Short fault = inl fault
StringFault-head kind w NotShortest fault = fault

content-answers : (kind : ℕ) (w : List ℕ) (q : Result (ℕ × ℕ) CborFault) → AnswersHead kind w q → AnswersString kind w (content_at w q)
content-answers kind w (Err e) fault = StringFault-head kind w e fault
content-answers kind w (Ok x) (within, spells) =
    let size : ℕ = x.0 in
    let start : ℕ = x.1 in
    elim (cases_lt (length w - start) size) [
      | inl ends ↦ rw (lt-ltb (length w - start) size ends) (inr (record {
        front = take start w;
        after = drop start w;
        size = size;
        parts = sym (take-append-drop start w);
        says = spells;
        fewer = omega (arith, length-drop start w);
      }))
      | inr whole ↦
          let body : List ℕ = take size (drop start w) in
          let long : length body ≡ size = length-take-le size (drop start w) (omega (arith, length-drop start w)) in
          rw (le-ltb (length w - start) size whole) (
            omega arith,
            record {
              small = rw long spells.small;
              spelt = take-add start size w ∙ ap (λ (t : List ℕ). t ++ body) (spells.spelt ∙ ap (head kind) (sym long));
            },
          )
    ]

pub string_at-answers : (kind : ℕ) (w : List ℕ) → AreOctets w → AnswersString kind w (string_at kind w)
string_at-answers kind w octets = content-answers kind w (head_at kind w) (head_at-answers kind w octets)

-- what is spelled is found, whatever follows
pub string_at-only : (kind : ℕ) (u rest body : List ℕ) → SpellsString kind u body → string_at kind (u ++ rest) ≡ Ok (body, length u)
string_at-only kind u rest body spells =
    let front : List ℕ = head kind (length body) in
    let parts : u ++ rest ≡ front ++ (body ++ rest) = ap (λ (t : List ℕ). t ++ rest) spells.spelt ∙ append_assoc front body rest in
    let says : SpellsHead kind front (length body) = record { small = spells.small; spelt = refl } in
    let whole : length body ≤ length (front ++ (body ++ rest)) - length front = omega (arith, length-append front (body ++ rest), length-append body rest) in
    let size : length u ≡ length front + length body = ap length spells.spelt ∙ length-append front body in
    rw (
      parts,
      head_at-only kind front (body ++ rest) (length body) says,
      le-ltb (length (front ++ (body ++ rest)) - length front) (length body) whole,
      drop-append_seam front (body ++ rest),
      take-append_seam body rest,
      size,
    ) refl

string_at-ends : (kind : ℕ) (w : List ℕ) → EndsInsideContent kind w → string_at kind w ≡ Err Short
string_at-ends kind w ends =
    let short : length (ends.front ++ ends.after) - length ends.front < ends.size = let few = ends.fewer in omega (arith, length-append ends.front ends.after) in
    rw (ends.parts, head_at-only kind ends.front ends.after ends.size ends.says, lt-ltb (length (ends.front ++ ends.after) - length ends.front) ends.size short) refl

string_at-fault : (kind : ℕ) (w : List ℕ) (e : CborFault) → StringFault kind w e → string_at kind w ≡ Err e
string_at-fault kind w Kind other = ap (content_at w) (head_at-other kind w other)
string_at-fault kind w Short (inl ends) = ap (content_at w) (head_at-ends kind w ends)
string_at-fault kind w Short (inr ends) = string_at-ends kind w ends
string_at-fault kind w NotShortest long = ap (content_at w) (head_at-long kind w long)

-- ---- the clauses of a reader whose answer is r

pub string-found : (kind : ℕ) (w : List ℕ) (r : Result (Bor (List ℕ) × ℕ) CborFault) → AreOctets w → lent r ≡ string_at kind w
    → IfOk r (λ x. (x.1 ≤ length w) × SpellsString kind (take x.1 w) x.0.now)
string-found kind w (Ok x) octets is = subst (AnswersString kind w) (sym is) (string_at-answers kind w octets)
string-found kind w (Err e) octets is = tt

pub string-only : (kind : ℕ) (w : List ℕ) (r : Result (Bor (List ℕ) × ℕ) CborFault) → lent r ≡ string_at kind w
    → (body : List ℕ) (k : ℕ) → k ≤ length w → SpellsString kind (take k w) body → lent r ≡ Ok (body, k)
string-only kind w r is body k within spells =
    is ∙ (ap (string_at kind) (sym (take-append-drop k w)) ∙ (string_at-only kind (take k w) (drop k w) body spells
    ∙ rw (length-take-le k w within) refl))

lent-err : (r : Result (Bor (List ℕ) × ℕ) CborFault) (e : CborFault) → lent r ≡ Err e → r ≡ Err e
lent-err (Ok x) e is = cc
lent-err (Err d) e is = let same : d ≡ e = cc in cc

pub string-fault : (kind : ℕ) (w : List ℕ) (r : Result (Bor (List ℕ) × ℕ) CborFault) → AreOctets w → lent r ≡ string_at kind w
    → (e : CborFault) → (r ≡ Err e) ↔ StringFault kind w e
string-fault kind w r octets is e = (
  (λ fault. subst (AnswersString kind w) (sym is ∙ ap lent fault) (string_at-answers kind w octets)),
  (λ reason. lent-err r e (is ∙ string_at-fault kind w e reason)),
)
