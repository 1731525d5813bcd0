-- The laws of heads, as readers of other formats need them: what `head_at` finds, that nothing else
-- is found, where a text ends too early, and that an answer stays however the text goes on.
use Rattle.std.proofs.Common.{◌≡◌, ◌≢◌, ◌↔◌, IfOk, ℕ, ◌≤◌, List, [], ◌∷◌, ◌++◌, length, take, drop, Result, Ok, Err, refl, sym, ap, ◌∙◌, subst, append_assoc}
use Rattle.std.proofs.lemmas.List.{take-append-drop, length-take-le}
use Rattle.cbor_lite.specs.declared.fault.CborFault.{CborFault}
use Rattle.cbor_lite.specs.declared.fault.CborFault.TheVariants.{Kind, Short, NotShortest}
use Rattle.cbor_lite.specs.Head.{SpellsHead, HasOtherKind, EndsInsideHead, HasLongHead, HeadFault, AnswersHead, head_at, kind_of, headed, any_head_at}
use Rattle.cbor_lite.specs.declared.head.Head.{Head}
use Rattle.cbor_lite.proofs.HeadLemmas.{AreOctets, head_at-only, head_at-answers, head_at-other, head_at-ends, head_at-long, kind_of-head}

-- what is found stands at the front of the text, and is spelled there
pub head_at-found : (kind : ℕ) (w : List ℕ) (n k : ℕ) → AreOctets w → head_at kind w ≡ Ok (n, k)
    → (k ≤ length w) × SpellsHead kind (take k w) n
head_at-found kind w n k octets is = subst (AnswersHead kind w) is (head_at-answers kind w octets)

-- the text ends too early only inside a head
pub head_at-short : (kind : ℕ) (w : List ℕ) → AreOctets w → head_at kind w ≡ Err Short → EndsInsideHead kind w
head_at-short kind w octets is = subst (AnswersHead kind w) is (head_at-answers kind w octets)

-- where there is a fault, no front of the text spells a head
pub head_at-absent : (kind : ℕ) (w : List ℕ) (e : CborFault) → head_at kind w ≡ Err e
    → (u v : List ℕ) (n : ℕ) → w ≡ u ++ v → SpellsHead kind u n → ⊥
head_at-absent kind w e is u v n parts spells =
    let found : head_at kind w ≡ Ok (n, length u) = ap (head_at kind) parts ∙ head_at-only kind u v n spells in
    cc

-- where the fault is another one, the text doesn't end inside a head
pub head_at-goes_on : (kind : ℕ) (w : List ℕ) (e : CborFault) → e ≢ Short → head_at kind w ≡ Err e → EndsInsideHead kind w → ⊥
head_at-goes_on kind w e other is ends =
    let short : head_at kind w ≡ Err Short = head_at-ends kind w ends in
    other cc

HasOtherKind-more : (kind : ℕ) (w more : List ℕ) → HasOtherKind kind w → HasOtherKind kind (w ++ more)
HasOtherKind-more kind [] more other = absurd other
HasOtherKind-more kind (first ∷ rest) more other = other

HasLongHead-more : (kind : ℕ) (w more : List ℕ) → HasLongHead kind w → HasLongHead kind (w ++ more)
HasLongHead-more kind w more long = record {
  front = long.front;
  after = long.after ++ more;
  number = long.number;
  parts = ap (λ (t : List ℕ). t ++ more) long.parts ∙ append_assoc long.front long.after more;
  says = long.says;
  shorter = long.shorter;
}

stays-as : (kind : ℕ) (w more : List ℕ) (r : Result (ℕ × ℕ) CborFault) → r ≢ Err Short → AnswersHead kind w r → head_at kind (w ++ more) ≡ r
stays-as kind w more (Ok x) settled (within, spells) =
    let parts : w ++ more ≡ take x.1 w ++ (drop x.1 w ++ more) =
    ap (λ (t : List ℕ). t ++ more) (sym (take-append-drop x.1 w)) ∙ append_assoc (take x.1 w) (drop x.1 w) more in
    ap (head_at kind) parts ∙ (head_at-only kind (take x.1 w) (drop x.1 w ++ more) x.0 spells
    ∙ rw (length-take-le x.1 w within) refl)
stays-as kind w more (Err Kind) settled other = head_at-other kind (w ++ more) (HasOtherKind-more kind w more other)
stays-as kind w more (Err Short) settled ends = absurd (settled refl)
stays-as kind w more (Err NotShortest) settled long = head_at-long kind (w ++ more) (HasLongHead-more kind w more long)

-- a head, or a fault other than the end of the text, stays however the text goes on
pub head_at-stays : (kind : ℕ) (w more : List ℕ) → AreOctets w → head_at kind w ≢ Err Short → head_at kind (w ++ more) ≡ head_at kind w
head_at-stays kind w more octets settled = stays-as kind w more (head_at kind w) settled (head_at-answers kind w octets)

-- ---- the clauses of a reader whose answer is r

pub head-found : (kind : ℕ) (w : List ℕ) (r : Result (ℕ × ℕ) CborFault) → AreOctets w → r ≡ head_at kind w
    → IfOk r (λ x. (x.1 ≤ length w) × SpellsHead kind (take x.1 w) x.0)
head-found kind w (Ok x) octets is = head_at-found kind w x.0 x.1 octets (sym is)
head-found kind w (Err e) octets is = tt

pub head-only : (kind : ℕ) (w : List ℕ) (r : Result (ℕ × ℕ) CborFault) → r ≡ head_at kind w
    → (n k : ℕ) → k ≤ length w → SpellsHead kind (take k w) n → r ≡ Ok (n, k)
head-only kind w r is n k within spells =
    is ∙ (ap (head_at kind) (sym (take-append-drop k w)) ∙ (head_at-only kind (take k w) (drop k w) n spells
    ∙ rw (length-take-le k w within) refl))

head_at-fault : (kind : ℕ) (w : List ℕ) (e : CborFault) → HeadFault kind w e → head_at kind w ≡ Err e
head_at-fault kind w Kind other = head_at-other kind w other
head_at-fault kind w Short ends = head_at-ends kind w ends
head_at-fault kind w NotShortest long = head_at-long kind w long

pub head-fault : (kind : ℕ) (w : List ℕ) (r : Result (ℕ × ℕ) CborFault) → AreOctets w → r ≡ head_at kind w
    → (e : CborFault) → (r ≡ Err e) ↔ HeadFault kind w e
head-fault kind w r octets is e = (
  (λ fault. subst (AnswersHead kind w) (sym is ∙ fault) (head_at-answers kind w octets)),
  (λ reason. is ∙ head_at-fault kind w e reason),
)

-- ---- the same for heads of whatever kind

any-found-as : (kind : ℕ) (w : List ℕ) (q : Result (ℕ × ℕ) CborFault) → AnswersHead kind w q
    → IfOk (headed kind q) (λ x. (x.1 ≤ length w) × SpellsHead x.0.major (take x.1 w) x.0.value)
any-found-as kind w (Ok x) answers = answers
any-found-as kind w (Err e) answers = tt

pub any-found : (w : List ℕ) (r : Result (Head × ℕ) CborFault) → AreOctets w → r ≡ any_head_at w
    → IfOk r (λ x. (x.1 ≤ length w) × SpellsHead x.0.major (take x.1 w) x.0.value)
any-found w r octets is = rw is (any-found-as (kind_of w) w (head_at (kind_of w) w) (head_at-answers (kind_of w) w octets))

any-only-as : (w u rest : List ℕ) (h : Head) → w ≡ u ++ rest → SpellsHead h.major u h.value → any_head_at w ≡ Ok (h, length u)
any-only-as w u rest h parts spells =
    let kind : kind_of w ≡ h.major = rw (parts, spells.spelt) (kind_of-head h.major h.value rest) in
    let found : head_at h.major w ≡ Ok (h.value, length u) = ap (head_at h.major) parts ∙ head_at-only h.major u rest h.value spells in
    rw (kind, found) refl

pub any-only : (w : List ℕ) (r : Result (Head × ℕ) CborFault) → r ≡ any_head_at w
    → (h : Head) (k : ℕ) → k ≤ length w → SpellsHead h.major (take k w) h.value → r ≡ Ok (h, k)
any-only w r is h k within spells =
    is ∙ (any-only-as w (take k w) (drop k w) h (sym (take-append-drop k w)) spells ∙ rw (length-take-le k w within) refl)

headed-err : (kind : ℕ) (q : Result (ℕ × ℕ) CborFault) (e : CborFault) → headed kind q ≡ Err e → q ≡ Err e
headed-err kind (Ok x) e is = cc
headed-err kind (Err d) e is = let same : d ≡ e = cc in cc

pub any-fault : (w : List ℕ) (r : Result (Head × ℕ) CborFault) → AreOctets w → r ≡ any_head_at w
    → (e : CborFault) → (r ≡ Err e) ↔ HeadFault (kind_of w) w e
any-fault w r octets is e = (
  (λ fault. subst (AnswersHead (kind_of w) w) (headed-err (kind_of w) (head_at (kind_of w) w) e (sym is ∙ fault)) (head_at-answers (kind_of w) w octets)),
  (λ reason. is ∙ ap (headed (kind_of w)) (head_at-fault (kind_of w) w e reason)),
)
