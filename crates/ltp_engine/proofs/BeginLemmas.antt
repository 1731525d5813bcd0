-- A block is submitted, and a session begins.

use Rattle.std.proofs.Common.{◌≡◌, ℕ, ◌+◌, ◌<◌, ◌≤◌, ◌^◌, Bool, true, false, ◌==◌, nat_lt, nat_le, List, [], length, Option, None, Some, Result, Ok, Err, refl, sym, ◌∙◌, ap, arith, subst, if◌then◌else◌}
use Rattle.std.specs.List.{AllByRecursion}
use Rattle.std.specs.Option.{option_map}
use Rattle.std.specs.Result.{IsErr, IsErrAnd}
use Rattle.std.specs.Ordering.{nat_cmp}
use Rattle.std.specs.BTreeMap.{insert_entry}
use Rattle.std.proofs.lemmas.Bool.{ne_eqb, eq-eqb}
use Rattle.std.proofs.lemmas.Bool.Decides.{nat_tests}
use Rattle.ltp_segment.specs.Policy.{PolicyValue}
use Rattle.ltp_segment.specs.declared.session.Note.{Note}
use Rattle.ltp_segment.specs.declared.session.Note.TheVariants as notes
use Rattle.ltp_session.specs.Step.{Change, stays, keeps, ends, after, note_sent}
use Rattle.ltp_session.specs.Sender.{Sending, begin, opened, last_segment, red_segments, checkpoint_at}
use Rattle.ltp_session.specs.Timer.{first_serial}
use Rattle.ltp_session.specs.Table.{settled, AreAscending}
use Rattle.ltp_session.specs.Engine.{Party, Engine, EngineStep, SubmitFault, submit_fault, submits, submit_step, notes_of, block_empty, block_too_large, numbers_spent, senders_busy}
use Rattle.ltp_session.specs.Views.{SessionValue, datagrams_of, note_of}
use Rattle.ltp_sender.specs.Sender.{begun_with}
use Rattle.ltp_laws.proofs.TableLemmas.{ascending-settled}
use Rattle.ltp_engine.specs.declared.effects.Effects.{Effects}
use Rattle.ltp_engine.specs.declared.inbound.Inbound.{Inbound}
use Rattle.ltp_engine.specs.Refused.{refusal_of}
use Rattle.ltp_engine.specs.Values.{EngineValue}
use Rattle.ltp_engine.specs.Tables.{table_of, live, live_all, AreLive, with_begun}
use Rattle.ltp_engine.specs.Effects.{effects_in}
use Rattle.ltp_engine.specs.Bounds.{SendsAtMost}
use Rattle.ltp_engine.specs.Shows.{Shows}
use Rattle.ltp_engine.specs.declared.refused.SubmitRefused.{SubmitRefused}
use Rattle.ltp_engine.specs.declared.refused.SubmitRefused.TheVariants as causes
use Rattle.ltp_engine.specs.Steps.{Steps, Sends, Submits, IsFault, IsNoFault, IsSent}
use Rattle.ltp_engine.specs.Ties.{made_of, AreWhole, begun_step}
use Rattle.ltp_engine.proofs.TableLemmas.{table_of-live_all, live-table, insert-live_all}
use Rattle.ltp_engine.proofs.BlockLemmas.{all-settled, begin-within}
use Rattle.ltp_engine.proofs.KeepLemmas.{length-put}
use Rattle.ltp_engine.proofs.HearLemmas.{at_least, less}

-- a session that begins isn't over by a change
pub never-ends : (p : PolicyValue) (n : ℕ) (block : List ℕ) (red now : ℕ) → (begin p n block red now).next ≡ ends → ⊥
unfolding begin
never-ends p n block red now is = by_last (last_segment (red_segments p block red)) is where
  by_last : (o : Option (ℕ × List ℕ)) → opened p block red now (checkpoint_at (length block) red (first_serial n) 0) o ≡ ends → ⊥
  by_last None is = absurd (cc)
  by_last (Some segment) is = absurd (cc)

kept-begun : (o : ℕ) (p : PolicyValue) (n : ℕ) (change : Change Sending) (entries : List (ℕ × SessionValue Sending)) → AreLive o p entries → (change ≡ ends → ⊥)
    → with_begun n (record { spent = false; name = record { originator = o; number = n }; policy = p; kept = after change None }) entries
    ≡ live_all o p (settled n change (table_of entries))
kept-begun o p n stays entries are_live never = are_live
kept-begun o p n (keeps s) entries are_live never = ap (λ es. insert_entry nat_cmp es n (live o p n s)) are_live ∙ insert-live_all o p n s (table_of entries)
kept-begun o p n ends entries are_live never = absurd (never refl)

length-begun : (n : ℕ) (change : Change Sending) (t : List (ℕ × Sending)) → (change ≡ ends → ⊥) → length (settled n change t) ≤ length t + 1
length-begun n stays t never = omega arith
length-begun n (keeps s) t never = length-put n s t
length-begun n ends t never = absurd (never refl)

pub begun-kept : (p : Party) (next : ℕ) (block : List ℕ) (red now : ℕ) (senders senders' : List (ℕ × SessionValue Sending)) (v : SessionValue Sending)
    → AreLive p.own p.policy senders → v ≡ begun_with (record { originator = p.own; number = next }) p.policy (begin p.policy next block red now)
    → senders' ≡ with_begun next v senders
    → senders' ≡ live_all p.own p.policy (settled next (begin p.policy next block red now).next (table_of senders))
begun-kept p next block red now senders senders' v are_live is put_in =
    put_in ∙ (ap (λ x. with_begun next x senders) is ∙ kept-begun p.own p.policy next (begin p.policy next block red now).next senders are_live (never-ends p.policy next block red now))

pub begun-whole : (p : Party) (next : ℕ) (block : List ℕ) (red now : ℕ) (senders senders' : List (ℕ × SessionValue Sending)) (inbound : Inbound)
    → AreWhole p next senders inbound → length (table_of senders) < p.sessions → next < 2 ^ 32 → length block ≤ p.most
    → senders' ≡ live_all p.own p.policy (settled next (begin p.policy next block red now).next (table_of senders))
    → AreWhole p (next + 1) senders' inbound
begun-whole p next block red now senders senders' inbound whole room few small is =
    let change = (begin p.policy next block red now).next in
    let tab = ap (λ es. table_of es) is ∙ table_of-live_all p.own p.policy (settled next change (table_of senders)) in
    let more = length-begun next change (table_of senders) (never-ends p.policy next block red now) in
    record {
      own = live-table p.own p.policy senders' (settled next change (table_of senders)) is;
      others = whole.others;
      sound = record {
        some = whole.sound.some;
        countable = whole.sound.countable;
        begun = omega (arith, whole.sound.begun);
        numbers = omega (arith, few);
        senders = rw tab (omega (arith, more, room));
        ascending = subst (λ t. AreAscending 0 t) (sym tab) (ascending-settled next 0 change (table_of senders) (omega arith) whole.sound.ascending);
        inbound = whole.sound.inbound;
        sent = subst (λ t. AllByRecursion (SendsAtMost p.most) t) (sym tab)
            (all-settled (SendsAtMost p.most) next change (table_of senders) whole.sound.sent (begin-within p.most next p.policy block red now small));
        received = whole.sound.received;
      };
    }

pub sent-note : (p : PolicyValue) (n : ℕ) (block : List ℕ) (red now : ℕ) → (if red == 0 then Some (notes.Sent n) else None) ≡ option_map (note_of n) (begin p n block red now).note
unfolding begin
sent-note p n block red now = by_none (red == 0) where
  by_none : (none : Bool) → (if none then Some (notes.Sent n) else None) ≡ option_map (note_of n) (if none then Some note_sent else None)
  by_none true = refl
  by_none false = refl

hands-none : (p : PolicyValue) (n : ℕ) (block : List ℕ) (red now : ℕ) → ((begin p n block red now).up ≡ None) × ((begin p n block red now).green ≡ None)
unfolding begin
hands-none p n block red now = (refl, refl)

pub begun-steps : (p : Party) (next : ℕ) (block : List ℕ) (red now : ℕ) (senders senders' : List (ℕ × SessionValue Sending)) (inbound : Inbound) (out : List (List ℕ)) (note : Option Note) (told : Effects)
    → senders' ≡ live_all p.own p.policy (settled next (begin p.policy next block red now).next (table_of senders))
    → out ≡ datagrams_of (record { originator = p.own; number = next }) (begin p.policy next block red now).out
    → note ≡ (if red == 0 then Some (notes.Sent next) else None)
    → told ≡ effects_in next None (record { out = out; up = None; green = None; note = note })
    → Steps (made_of false p next senders inbound) (made_of false p (next + 1) senders' inbound) (λ e. begun_step p e block red now) told
begun-steps p next block red now senders senders' inbound out note told is out_is note_is says =
    let tab = ap (λ es. table_of es) is ∙ table_of-live_all p.own p.policy (settled next (begin p.policy next block red now).next (table_of senders)) in
    record {
      whole = refl;
      party = refl;
      next = λ e shows. record {
        next = ap (λ k. k + 1) shows.next;
        senders = ap (λ k. settled k (begin p.policy k block red now).next e.senders) shows.next ∙ (ap (λ t. settled next (begin p.policy next block red now).next t) shows.senders ∙ sym tab);
        inbound = record { receivers = shows.inbound.receivers; touched = shows.inbound.touched; closed = shows.inbound.closed };
      };
      effects_are = λ e shows. says ∙ (rw (out_is, note_is ∙ sent-note p.policy next block red now) refl ∙ ap (λ k. told_at k) (sym shows.next));
    } where
      told_at : ℕ → Effects
      told_at k = record {
        out = datagrams_of (record { originator = p.own; number = k }) (begin p.policy k block red now).out;
        ups = [];
        greens = [];
        notes = notes_of k (begin p.policy k block red now);
      }

-- ---- refusals

pub is-fault : (p : Party) (e : Engine) (block : List ℕ) (red now : ℕ) (fault : SubmitFault) → submit_fault p e block ≡ Some fault
    → IsFault (refusal_of fault) (submit_step p e (submits p e block red now))
unfolding submits
is-fault p e block red now fault is = rw is refl

pub is-begun : (p : Party) (e : Engine) (block : List ℕ) (red now : ℕ) → submit_fault p e block ≡ None
    → submit_step p e (submits p e block red now) ≡ Ok (begun_step p e block red now)
unfolding submits
is-begun p e block red now is = rw is refl

fault-empty : (p : Party) (e : Engine) (block : List ℕ) → length block ≡ 0 → submit_fault p e block ≡ Some block_empty
fault-empty p e block is = rw (eq-eqb (length block) 0 is) refl

fault-large : (p : Party) (e : Engine) (block : List ℕ) → (length block ≡ 0 → ⊥) → p.most < length block → submit_fault p e block ≡ Some block_too_large
fault-large p e block some large = rw (ne_eqb (length block) 0 some, less p.most (length block) large) refl

not_less : (a b : ℕ) → b ≤ a → nat_lt a b ≡ false
not_less a b is = grind (arith, nat_tests)

not_most : (a b : ℕ) → b < a → nat_le a b ≡ false
not_most a b is = grind (arith, nat_tests)

fault-spent : (p : Party) (e : Engine) (block : List ℕ) → (length block ≡ 0 → ⊥) → length block ≤ p.most → 2 ^ 32 ≤ e.next → submit_fault p e block ≡ Some numbers_spent
fault-spent p e block some small spent = rw (ne_eqb (length block) 0 some, not_less p.most (length block) small, at_least (2 ^ 32) e.next spent) refl

fault-busy : (p : Party) (e : Engine) (block : List ℕ) → (length block ≡ 0 → ⊥) → length block ≤ p.most → e.next < 2 ^ 32 → p.sessions ≤ length e.senders → submit_fault p e block ≡ Some senders_busy
fault-busy p e block some small few busy = rw (ne_eqb (length block) 0 some, not_less p.most (length block) small, not_most (2 ^ 32) e.next few, at_least p.sessions (length e.senders) busy) refl

fault-none : (p : Party) (e : Engine) (block : List ℕ) → (length block ≡ 0 → ⊥) → length block ≤ p.most → e.next < 2 ^ 32 → length e.senders < p.sessions → submit_fault p e block ≡ None
fault-none p e block some small few room = rw (ne_eqb (length block) 0 some, not_less p.most (length block) small, not_most (2 ^ 32) e.next few, not_most p.sessions (length e.senders) room) refl

-- what is refused, and changes nothing
abbrev pub Refuses : EngineValue → List ℕ → ℕ → ℕ → SubmitFault → Type 0
Refuses v block red now fault = (v ≡ v) × ((e : Engine) → Shows v e → IsFault (refusal_of fault) (submit_step v.party e (submits v.party e block red now)))

refuses : (v : EngineValue) (block : List ℕ) (red now : ℕ) (fault : SubmitFault) → ((e : Engine) → Shows v e → submit_fault v.party e block ≡ Some fault) → Refuses v block red now fault
refuses v block red now fault is = (refl, λ e shows. is-fault v.party e block red now fault (is e shows))

pub refuses-empty : (v : EngineValue) (block : List ℕ) (red now : ℕ) → length block ≡ 0 → Refuses v block red now block_empty
refuses-empty v block red now is = refuses v block red now block_empty (λ e shows. fault-empty v.party e block is)

pub refuses-large : (u v : EngineValue) (block : List ℕ) (red now : ℕ) → u ≡ v → (length block ≡ 0 → ⊥) → u.party.most < length block → Refuses v block red now block_too_large
refuses-large u v block red now same some large = subst (λ x. Refuses x block red now block_too_large) same (refuses u block red now block_too_large (λ e shows. fault-large u.party e block some large))

pub refuses-spent : (u v : EngineValue) (block : List ℕ) (red now : ℕ) → u ≡ v → (length block ≡ 0 → ⊥) → length block ≤ u.party.most → 2 ^ 32 ≤ u.next → Refuses v block red now numbers_spent
refuses-spent u v block red now same some small spent = subst (λ x. Refuses x block red now numbers_spent) same
    (refuses u block red now numbers_spent (λ e shows. fault-spent u.party e block some small (omega (arith, shows.next, spent))))

pub refuses-busy : (u v : EngineValue) (block : List ℕ) (red now : ℕ) → u ≡ v → (length block ≡ 0 → ⊥) → length block ≤ u.party.most → u.next < 2 ^ 32 → u.party.sessions ≤ length u.senders → Refuses v block red now senders_busy
refuses-busy u v block red now same some small few busy = subst (λ x. Refuses x block red now senders_busy) same
    (refuses u block red now senders_busy (λ e shows. fault-busy u.party e block some small (omega (arith, shows.next, few)) (omega (arith, ap length shows.senders, busy))))

pub submit-sent : (spent : Bool) (p : Party) (next : ℕ) (senders : List (ℕ × SessionValue Sending)) (inbound : Inbound) (v w : EngineValue) (block : List ℕ) (red now : ℕ) (effects : Effects)
    → made_of spent p next senders inbound ≡ v → (length block ≡ 0 → ⊥) → length block ≤ p.most → next < 2 ^ 32 → length (table_of senders) < p.sessions
    → Steps (made_of false p next senders inbound) w (λ e. begun_step p e block red now) effects
    → Sends v w (λ e. submit_step v.party e (submits v.party e block red now)) effects
submit-sent spent p next senders inbound v w block red now effects is some small few room steps =
    subst (λ x. Sends x w (λ e. submit_step x.party e (submits x.party e block red now)) effects) is
    (record { whole = steps.whole; party = steps.party; next = here }) where
      here : (e : Engine) → Shows (made_of spent p next senders inbound) e → IsSent w effects (submit_step p e (submits p e block red now))
      here e shown =
          let again : Shows (made_of false p next senders inbound) e = record { next = shown.next; senders = shown.senders; inbound = shown.inbound } in
          subst (λ r. IsSent w effects r) (sym (is-begun p e block red now (fault-none p e block some small (omega (arith, shown.next, few)) (omega (arith, ap length shown.senders, room)))))
          (steps.next e again, steps.effects_are e again)

-- a block is begun where there is no fault
pub submit-begins : (u v : EngineValue) (block : List ℕ) (red now : ℕ)
    → u ≡ v → (length block ≡ 0 → ⊥) → length block ≤ u.party.most → u.next < 2 ^ 32 → length u.senders < u.party.sessions
    → (e : Engine) → Shows v e → IsNoFault (submit_step v.party e (submits v.party e block red now))
submit-begins u v block red now is some small few room e shows =
    subst (λ x. Shows x e → IsNoFault (submit_step x.party e (submits x.party e block red now))) is here shows where
      here : Shows u e → IsNoFault (submit_step u.party e (submits u.party e block red now))
      here shown = rw (is-begun u.party e block red now (fault-none u.party e block some small (omega (arith, shown.next, few)) (omega (arith, ap length shown.senders, room)))) tt

-- want of memory ends a submit that is no fault
pub submit-wanted : (old new : EngineValue) (step : Engine → Result EngineStep SubmitFault) (r : Result Effects SubmitRefused)
    → IsErr r × IsErrAnd r (λ e. e ≡ causes.Memory) → new.spent ≡ true → ((e : Engine) → Shows old e → IsNoFault (step e)) → Submits old new step r
submit-wanted old new step (Ok effects) is spent begins = absurd is.1
submit-wanted old new step (Err e) is spent begins = subst (λ x. Submits old new step (Err x)) (sym is.1) (spent, begins)
