-- One serial, one report; reports come from receivers that are known.

use Rattle.std.proofs.Common.{◌+◌, ◌≡◌, ℕ, ◌<◌, false, not, ◌==◌, ◌||◌, List, []}
use Rattle.std.proofs.Common.{◌∷◌, ◌++◌, length, Option, None, Some, ◌⊎◌, inl, inr, refl, sym, ◌∙◌}
use Rattle.std.proofs.Common.{ap, arith, subst, nat_lt, nat_le}
use Rattle.std.specs.List.{AllByRecursion}
use Rattle.ltp_segment.specs.Kinds.{is_red, is_checkpoint}
use Rattle.ltp_segment.specs.Policy.{PolicyValue}
use Rattle.ltp_segment.specs.Values.{PieceValue, ReportValue, ContentValue, a_piece, a_report}
use Rattle.ltp_segment.specs.Values.{a_report_ack, a_sender_cancel, a_sender_cancel_ack}
use Rattle.ltp_segment.specs.Values.{a_receiver_cancel, a_receiver_cancel_ack}
use Rattle.ltp_session.specs.Claims.{report_on, is_whole_claim}
use Rattle.ltp_session.specs.Receiver.{Receiving, ReceivingPhase, receiver_open}
use Rattle.ltp_session.specs.Receiver.{receiver_cancelling, Pending, Admission, fresh, piece_stop}
use Rattle.ltp_session.specs.Receiver.{is_outside, is_miscoloured, rejects, with_red, red_part}
use Rattle.ltp_session.specs.Receiver.{with_handed_up, report_of, takes_red, piece_step}
use Rattle.ltp_session.specs.Receiver.{acknowledged_in, acknowledged, receiver_due, receiver_tick}
use Rattle.ltp_session.specs.Receiver.{is_cancelling, piece_for, on_piece, receiver_answers}
use Rattle.ltp_session.specs.Step.{StepValue, Change, after, stays, keeps, ends, NoteValue}
use Rattle.ltp_session.specs.Timer.{next_timer, is_past_serials}
use Rattle.ltp_laws.specs.Blocks.{BlockFacts}
use Rattle.ltp_laws.specs.Kept.{IfKept, IfKeeps}
use Rattle.ltp_laws.specs.Runs.{KeepsUnder}
use Rattle.ltp_laws.specs.Serials.{pending_of, HasReported, AreNumbered, NoReports, SerialFacts}
use Rattle.ltp_laws.specs.View.{View, closed_after, receiver_moves, IsIn}
use Rattle.ltp_laws.proofs.ListLemmas.{both_arms, by_arms, answered}

-- ---- among

pub all-among : (P : ContentValue → Type 0) (content : ContentValue) (cs : List ContentValue)
    → AllByRecursion P cs → IsIn content cs → P content
all-among P content [] all among = absurd among
all-among P content (c ∷ cs) all (inl here) = subst P here all.0
all-among P content (c ∷ cs) all (inr among) = all-among P content cs all.1 among

pub among-append : (c : ContentValue) (xs ys : List ContentValue) → IsIn c (xs ++ ys)
    → IsIn c xs ⊎ IsIn c ys
among-append c [] ys among = inr among
among-append c (x ∷ xs) ys (inl here) = inl (inl here)
among-append c (x ∷ xs) ys (inr among) = go (among-append c xs ys among)
  where
    go : IsIn c xs ⊎ IsIn c ys → IsIn c (x ∷ xs) ⊎ IsIn c ys
    go (inl left) = inl (inr left)
    go (inr right) = inr right

pub among-left : (c : ContentValue) (xs ys : List ContentValue) → IsIn c xs → IsIn c (xs ++ ys)
among-left c [] ys among = absurd among
among-left c (x ∷ xs) ys (inl here) = inl here
among-left c (x ∷ xs) ys (inr among) = inr (among-left c xs ys among)

pub among-right : (c : ContentValue) (xs ys : List ContentValue) → IsIn c ys → IsIn c (xs ++ ys)
among-right c [] ys among = among
among-right c (x ∷ xs) ys among = inr (among-right c xs ys among)

-- the reports of `out` were sent before
abbrev pub Old : List ContentValue → List ContentValue → Type 0
Old said out = (x : ReportValue) → IsIn (a_report x) out → IsIn (a_report x) said

pub old-among : (said out : List ContentValue) → Old said out → (x : ReportValue)
    → IsIn (a_report x) (said ++ out) → IsIn (a_report x) said
old-among said out old x among = go (among-append (a_report x) said out among)
  where
    go : IsIn (a_report x) said ⊎ IsIn (a_report x) out → IsIn (a_report x) said
    go (inl before) = before
    go (inr now) = old x now

old-none : (said : List ContentValue) → Old said []
old-none said x among = absurd among

old-cancel : (said : List ContentValue) (reason : ℕ) → Old said (a_receiver_cancel reason ∷ [])
old-cancel said reason x (inl here) = absurd (cc)
old-cancel said reason x (inr none) = absurd none

old-cancel_ack : (said : List ContentValue) → Old said (a_sender_cancel_ack ∷ [])
old-cancel_ack said x (inl here) = absurd (cc)
old-cancel_ack said x (inr none) = absurd none

pub old-resent : (said : List ContentValue) (r : ReportValue) → IsIn (a_report r) said
    → Old said (a_report r ∷ [])
old-resent said r among x (inl here) = subst (λ c. IsIn c said) here among
old-resent said r among x (inr none) = absurd none

once-old : (said out : List ContentValue) → Old said out → AreNumbered said
    → AreNumbered (said ++ out)
once-old said out old once x y of_x of_y same =
    once x y (old-among said out old x of_x) (old-among said out old y of_y) same

-- what a receiver does about its reports
pub record ReportsOn (said : List ContentValue) (t : StepValue Receiving) : Type 0 where
  pub next : IfKeeps (HasReported (said ++ t.out)) t.next
  pub once : AreNumbered (said ++ t.out)
  pub quiet : t.next ≡ stays → Old said t.out

-- a receiver with the same serial, which waits for the same report or for none
tells-old : (said out : List ContentValue) (r r' : Receiving) → Old said out → HasReported said r
    → r'.serial ≡ r.serial
    → ((p : Pending) → pending_of r'.phase ≡ Some p → IsIn (a_report p.report) said)
    → HasReported (said ++ out) r'
tells-old said out r r' old tells serial pending = record {
  pending = λ p is. among-left (a_report p.report) said out (pending p is);
  below = λ x among. subst (λ n. x.serial < n) (sym serial)
      (tells.below x (old-among said out old x among));
}

no_pending : (said : List ContentValue) (p : Pending) → None ≡ Some p
    → IsIn (a_report p.report) said
no_pending said p is = absurd (cc)

-- a fresh report
made-tells : (said : List ContentValue) (r r' : Receiving) (x : ReportValue) → HasReported said r
    → x.serial ≡ r.serial → r'.serial ≡ r.serial + 1
    → ((p : Pending) → pending_of r'.phase ≡ Some p → p.report ≡ x)
    → HasReported (said ++ a_report x ∷ []) r'
made-tells said r r' x tells serial next pending = record {
  pending = λ p is. among-right (a_report p.report) said (a_report x ∷ [])
      (inl (ap a_report (sym (pending p is))));
  below = λ y among. go y (among-append (a_report y) said (a_report x ∷ []) among);
}
  where
    go : (y : ReportValue) → IsIn (a_report y) said ⊎ IsIn (a_report y) (a_report x ∷ [])
        → y.serial < r'.serial
    go y (inl before) = omega (arith, tells.below y before, next)
    go y (inr (inl here)) = let same : x ≡ y =
        cc in omega (arith, next, serial, ap (λ (z : ReportValue). z.serial) same)
    go y (inr (inr none)) = absurd none

made-once : (said : List ContentValue) (r : Receiving) (x : ReportValue) → HasReported said r
    → x.serial ≡ r.serial → AreNumbered said → AreNumbered (said ++ a_report x ∷ [])
made-once said r x tells serial once y z of_y of_z same =
    go (among-append (a_report y) said (a_report x ∷ []) of_y) (among-append (a_report z) said
    (a_report x ∷ []) of_z)
  where
    go : IsIn (a_report y) said ⊎ IsIn (a_report y) (a_report x ∷ [])
        → IsIn (a_report z) said ⊎ IsIn (a_report z) (a_report x ∷ []) → y ≡ z
    go (inl y_before) (inl z_before) = once y z y_before z_before same
    go (inl y_before) (inr (inl z_now)) =
        let is_z : x ≡ z =
        cc in absurd (omega (
          arith,
          tells.below y y_before,
          same,
          serial,
          ap (λ (w : ReportValue).
              w.serial) is_z,
        ))
    go (inr (inl y_now)) (inl z_before) =
        let is_y : x ≡ y =
        cc in absurd (omega (
          arith,
          tells.below z z_before,
          same,
          serial,
          ap (λ (w : ReportValue).
              w.serial) is_y,
        ))
    go (inr (inl y_now)) (inr (inl z_now)) = let is_y : x ≡ y = cc in let is_z : x ≡ z =
        cc in sym is_y ∙ is_z
    go (inr (inr none)) of_z = absurd none
    go (inl y_before) (inr (inr none)) = absurd none
    go (inr (inl y_now)) (inr (inr none)) = absurd none

-- ---- the receiver's steps

report_of_pending : (x p : Pending) → Some x ≡ Some p → p.report ≡ x.report
report_of_pending x p is = let same : x ≡ p = cc in ap (λ (q : Pending). q.report) (sym same)

report_of-serial : (r : Receiving) (p : PieceValue) → (report_of r p).serial ≡ r.serial
unfolding report_of report_on
report_of-serial r p = refl

-- nothing is said, and the receiver keeps its reports
silent-tells : (said : List ContentValue) (r r' : Receiving) → HasReported said r
    → r'.serial ≡ r.serial → pending_of r'.phase ≡ pending_of r.phase → HasReported (said ++ []) r'
silent-tells said r r' tells serial same =
    tells-old said [] r r' (old-none said) tells serial (λ p is. tells.pending p (sym same ∙ is))

rejects-tells : (said : List ContentValue) (policy : PolicyValue) (r : Receiving) (reason now : ℕ)
    (up : Option (List ℕ)) → HasReported said r → AreNumbered said
    → ReportsOn said (rejects policy r reason now up)
rejects-tells said policy r reason now up tells once = record {
  next = tells-old said _ r _ (old-cancel said reason) tells refl (no_pending said);
  once = once-old said _ (old-cancel said reason) once;
  quiet = λ is. absurd (cc);
}

stays-tells : (said out : List ContentValue) → Old said out → AreNumbered said
    → (t : StepValue Receiving) → t.next ≡ stays → t.out ≡ out → ReportsOn said t
stays-tells said out old once t next is_out = record {
  next = subst (IfKeeps (HasReported (said ++ t.out))) (sym next) tt;
  once = subst (λ o. AreNumbered (said ++ o)) (sym is_out) (once-old said out old once);
  quiet = λ h. subst (Old said) (sym is_out) old;
}

pub piece-tells : (said : List ContentValue) (policy : PolicyValue) (r : Receiving)
    (p : PieceValue) (now : ℕ) → HasReported said r → AreNumbered said
    → ReportsOn said (piece_step policy r p now)
unfolding piece_step
piece-tells said policy r p now tells once =
    both_arms On (is_outside r p) _ _ (stays-tells said [] (old-none said) once _ refl refl)
    (both_arms On (is_miscoloured r p) _ _ (rejects-tells said policy r 3 now None tells once)
    (both_arms On (is_red p.kind) _ _ (takes (with_red r p) (same tells))
    (record {
      next = silent-tells said r _ tells refl refl;
      once = quiet_once;
      quiet = λ is.
          absurd (cc);
    })))
  where
    On : StepValue Receiving → Type 0
    On = ReportsOn said

    quiet_once : AreNumbered (said ++ [])
    quiet_once = once-old said [] (old-none said) once

    same : HasReported said r → HasReported said (with_red r p)
    same t = record { pending = t.pending; below = t.below }

    takes : (r' : Receiving) → HasReported said r' → On (takes_red policy r' p now)
    takes r' tells' =
        both_arms On (is_checkpoint p.kind) _ _
        (both_arms On (is_past_serials r'.serial) _ _
        (rejects-tells said policy (with_handed_up r') 4 now (red_part r')
        (record { pending = tells'.pending; below = tells'.below }) once)
        (record {
          next = made-tells said r' _ (report_of r' p) tells' (report_of-serial r' p) refl
              (λ pending is. report_of_pending _ pending is);
          once = made-once said r' (report_of r' p) tells' (report_of-serial r' p) once;
          quiet = λ is. absurd (cc);
        }))
        (record {
          next = silent-tells said r' _ tells' refl refl;
          once = quiet_once;
          quiet = λ is.
              absurd (cc);
        })

-- a change that says nothing, of a receiver or of none
ends-tells : (said out : List ContentValue) → Old said out → AreNumbered said
    → (t : StepValue Receiving) → t.next ≡ ends → t.out ≡ out → ReportsOn said t
ends-tells said out old once t next is_out = record {
  next = subst (IfKeeps (HasReported (said ++ t.out))) (sym next) tt;
  once = subst (λ o. AreNumbered (said ++ o)) (sym is_out) (once-old said out old once);
  quiet = λ h. absurd (cc);
}

acknowledged-tells : (said : List ContentValue) (r : Receiving) (serial : ℕ) → HasReported said r
    → AreNumbered said → ReportsOn said (acknowledged r serial)
unfolding acknowledged
acknowledged-tells said r serial tells once = by_phase r.phase refl
  where
    silent : (r' : Receiving) → r'.serial ≡ r.serial
        → ((p : Pending) → pending_of r'.phase ≡ Some p → IsIn (a_report p.report) said)
        → ReportsOn said (record {
          next = keeps r';
          out = [];
          up = None;
          green = None;
          note = None;
        })
    silent r' serial pending =
        record {
          next = tells-old said [] r r' (old-none said) tells serial pending;
          once = once-old said [] (old-none said) once;
          quiet = λ is. absurd (cc);
        }

    by_phase : (phase : ReceivingPhase) → r.phase ≡ phase
        → ReportsOn said (acknowledged_in r phase serial)
    by_phase (receiver_open None) is = silent r refl tells.pending
    by_phase (receiver_open (Some pending)) is =
        both_arms (ReportsOn said) (pending.report.serial == serial) _ _
        (both_arms (ReportsOn said) (is_whole_claim r.length pending.report.claims) _ _
        (ends-tells said [] (old-none said) once _ refl refl)
        (silent _ refl (no_pending said)))
        (silent r refl tells.pending)
    by_phase (receiver_cancelling reason timer) is = silent r refl tells.pending

receiver_tick-tells : (said : List ContentValue) (policy : PolicyValue) (now : ℕ) (r : Receiving)
    → HasReported said r → AreNumbered said
    → ReportsOn said (receiver_tick policy r now)
unfolding receiver_tick
receiver_tick-tells said policy now r tells once = by_phase r.phase refl
  where
    by_phase : (phase : ReceivingPhase) → r.phase ≡ phase
        → ReportsOn said (receiver_due policy r phase now)
    by_phase (receiver_open None) is = stays-tells said [] (old-none said) once _ refl refl
    by_phase (receiver_open (Some pending)) is =
        both_arms (ReportsOn said) (nat_le pending.timer.deadline now) _ _
        (both_arms (ReportsOn said) (nat_lt pending.timer.times policy.limit) _ _
        (record {
          next = tells-old said _ r _ old tells refl
              (λ p same. subst (λ (x : ReportValue). IsIn (a_report x) said) (again p same) sent);
          once =
              once-old said _ old once;
          quiet = λ h. absurd (cc);
        })
        (both_arms (ReportsOn said) r.handed_up _ _ (ends-tells said [] (old-none said) once _ refl
        refl) (rejects-tells said policy r 2 now None tells once)))
        (stays-tells said [] (old-none said) once _ refl refl)
      where
        sent : IsIn (a_report pending.report) said
        sent = tells.pending pending (ap pending_of is)

        old : Old said (a_report pending.report ∷ [])
        old = old-resent said pending.report sent

        again : (p : Pending)
            → Some (record {
              report = pending.report;
              timer = next_timer policy pending.timer now;
            }) ≡ Some p → pending.report ≡ p.report
        again p same =
            let is_p : record {
              report = pending.report;
              timer = next_timer policy pending.timer
                  now;
            } ≡ p = cc in ap (λ (q : Pending). q.report) is_p
    by_phase (receiver_cancelling reason timer) is =
        both_arms (ReportsOn said) (nat_le timer.deadline now) _ _
        (both_arms (ReportsOn said) (nat_lt timer.times policy.limit) _ _
        (record {
          next = tells-old said _ r _ (old-cancel said reason) tells refl
              (no_pending said);
          once = once-old said _ (old-cancel said reason) once;
          quiet =
              λ h. absurd (cc);
        })
        (ends-tells said [] (old-none said) once _ refl refl))
        (stays-tells said [] (old-none said) once _ refl refl)

pub fresh-tells : (said : List ContentValue) (session : ℕ) → NoReports said
    → HasReported said (fresh session)
fresh-tells said session none =
    record { pending = no_pending said; below = λ x among. absurd (none x among) }

on_piece-tells : (said : List ContentValue) (policy : PolicyValue) (place : Admission)
    (kept : Option Receiving) (p : PieceValue) (now : ℕ)
    → IfKept (HasReported said) kept → (kept ≡ None → place.closed ≡ false → NoReports said)
    → AreNumbered said → ReportsOn said (on_piece policy place kept p now)
on_piece-tells said policy place kept p now tells unknown once =
    both_arms (ReportsOn said) (not (p.service == 1)) _ _
    (stays-tells said _ (old-cancel said 1) once _ refl refl)
    (both_arms (ReportsOn said) ((length p.body == 0) || nat_lt place.most (piece_stop p)) _ _
    quiet (by_kept kept tells unknown))
  where
    quiet : {note : NoteValue}
        → ReportsOn said (record {
          next = stays;
          out = [];
          up = None;
          green = None;
          note = Some note;
        })
    quiet = stays-tells said [] (old-none said) once _ refl refl

    by_kept : (kept : Option Receiving) → IfKept (HasReported said) kept
        → (kept ≡ None → place.closed ≡ false → NoReports said)
        → ReportsOn said (piece_for policy place kept p now)
    by_kept None tells unknown =
        both_arms (ReportsOn said) (not (is_red p.kind)) _ _
        (stays-tells said [] (old-none said) once _ refl refl)
        (by_arms (ReportsOn said) place.closed _ _ (λ closed. quiet)
        (λ open_number. both_arms (ReportsOn said) place.full _ _ quiet
        (piece-tells said policy (fresh place.session) p now (fresh-tells said place.session
        (unknown refl open_number)) once)))
    by_kept (Some r) tells unknown =
        both_arms (ReportsOn said) (is_cancelling r.phase) _ _ quiet
        (piece-tells said policy r p now tells once)

hears-tells : (said : List ContentValue) (policy : PolicyValue) (place : Admission)
    (kept : Option Receiving) (content : ContentValue) (now : ℕ) (t : StepValue Receiving)
    → IfKept (HasReported said) kept → (kept ≡ None → place.closed ≡ false → NoReports said)
    → AreNumbered said
    → receiver_answers policy place kept content now ≡ Some t → ReportsOn said t
unfolding receiver_answers
hears-tells said policy place kept (a_piece p) now t tells unknown once hears =
    answered (ReportsOn said) _ t hears (on_piece-tells said policy place kept p now
    tells unknown once)
hears-tells said policy place None (a_report_ack serial) now t tells unknown once hears =
    answered (ReportsOn said) _ t hears (stays-tells said [] (old-none said) once _ refl refl)
hears-tells said policy place (Some r) (a_report_ack serial) now t tells unknown once hears =
    answered (ReportsOn said) _ t hears (acknowledged-tells said r serial tells once)
hears-tells said policy place None (a_sender_cancel reason) now t tells unknown once hears =
    answered (ReportsOn said) _ t hears (stays-tells said _ (old-cancel_ack said) once _ refl refl)
hears-tells said policy place (Some r) (a_sender_cancel reason) now t tells unknown once hears =
    answered (ReportsOn said) _ t hears (ends-tells said _ (old-cancel_ack said) once _ refl refl)
hears-tells said policy place None a_receiver_cancel_ack now t tells unknown once hears =
    answered (ReportsOn said) _ t hears (stays-tells said [] (old-none said) once _ refl refl)
hears-tells said policy place (Some r) a_receiver_cancel_ack now t tells unknown once hears =
    answered (ReportsOn said) _ t hears
    (both_arms (ReportsOn said) (is_cancelling r.phase) _ _
    (ends-tells said [] (old-none said) once _ refl refl)
    (stays-tells said [] (old-none said) once _ refl refl))
hears-tells said policy place kept (a_report r) now t tells unknown once hears = absurd (cc)
hears-tells said policy place kept (a_receiver_cancel reason) now t tells unknown once hears =
    absurd (cc)
hears-tells said policy place kept a_sender_cancel_ack now t tells unknown once hears = absurd (cc)

-- ---- a session's reports

none-more : (said out : List ContentValue) → NoReports said → Old said out
    → NoReports (said ++ out)
none-more said out none old x among = none x (old-among said out old x among)

moves-reports : {block : List ℕ} {red : ℕ} (v : View) (t : StepValue Receiving)
    → SerialFacts block red v → ReportsOn v.by_receiver t
    → ((r : Receiving) → v.receiver ≡ Some r → t.next ≡ stays → HasReported
    (v.by_receiver ++ t.out) r)
    → SerialFacts block red (receiver_moves v t)
moves-reports v t facts on still =
    record { unknown = unknown t.next refl; kept = kept t.next refl on.next; once = on.once }
  where
    unknown : (c : Change Receiving) → t.next ≡ c → after c v.receiver ≡ None
        → closed_after c v.closed ≡ false → NoReports (v.by_receiver ++ t.out)
    unknown stays is none not_closed =
        none-more v.by_receiver t.out (facts.unknown none not_closed) (on.quiet is)
    unknown (keeps r) is none not_closed = absurd (cc)
    unknown ends is none not_closed = absurd (cc)

    by_kept : (o : Option Receiving) → v.receiver ≡ o → t.next ≡ stays
        → IfKept (HasReported (v.by_receiver ++ t.out)) o
    by_kept None is unchanged = tt
    by_kept (Some r) is unchanged = still r is unchanged

    kept : (c : Change Receiving) → t.next ≡ c → IfKeeps (HasReported (v.by_receiver ++ t.out)) c
        → IfKept (HasReported (v.by_receiver ++ t.out)) (after c v.receiver)
    kept stays is change = by_kept v.receiver refl is
    kept (keeps r) is change = change
    kept ends is change = tt

-- a receiver of which nothing changed
still-tells : {block : List ℕ} {red : ℕ} (v : View) (t : StepValue Receiving)
    → SerialFacts block red v → ReportsOn v.by_receiver t
    → (r : Receiving) → v.receiver ≡ Some r → t.next ≡ stays
    → HasReported (v.by_receiver ++ t.out) r
still-tells v t facts on r is unchanged =
    let tells : HasReported v.by_receiver r =
    subst (IfKept (HasReported v.by_receiver)) is facts.kept in
    tells-old v.by_receiver t.out r r (on.quiet unchanged) tells refl tells.pending

pub reports-keep : KeepsUnder BlockFacts SerialFacts
reports-keep = record {
  begins = λ policy n block red now v cuts within unused _. record {
    unknown = λ none not_closed x among. subst (IsIn (a_report x)) unused.by_receiver among;
    kept = subst (IfKept (HasReported v.by_receiver)) (sym unused.receiver) tt;
    once = λ x y of_x of_y same. absurd (subst (IsIn (a_report x)) unused.by_receiver of_x);
  };
  sender = λ block red policy v content now t among hears p p' facts.
      record { unknown = facts.unknown; kept = facts.kept; once = facts.once };
  receiver = λ block red policy place v content now t closed among hears p p' facts.
      let on = hears-tells v.by_receiver policy place v.receiver content now t facts.kept
      (λ none not_closed. facts.unknown none (sym closed ∙ not_closed)) facts.once hears in
      moves-reports v t facts on (still-tells v t facts on);
  sender_tick = λ block red policy now v s is p p' facts. record {
    unknown = facts.unknown;
    kept = facts.kept;
    once = facts.once;
  };
  receiver_tick = λ block red policy now v r is p p' facts.
      let tells : HasReported v.by_receiver r =
      subst (IfKept (HasReported v.by_receiver)) is facts.kept in
      let on = receiver_tick-tells v.by_receiver policy now r tells facts.once in
      moves-reports v (receiver_tick policy r now) facts on
      (still-tells v (receiver_tick policy r now) facts on);
  evicted = λ block red v r is p p' facts. record {
    unknown = λ none open_number. absurd (cc);
    kept = tt;
    once = facts.once;
  };
}
