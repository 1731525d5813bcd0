-- An event that the code plays is that of the definition.
use Rattle.std.proofs.Common.{◌≡◌, ℕ, ◌+◌, ◌%◌, ◌^◌, ◌==◌, ◌<◌, ◌≤◌, eq-eqb, Bool, true, false, ◌||◌, nat_lt, List, [], ◌∷◌, ◌++◌, length, cond, zero, suc, ◌-◌, Result, Ok, Err, OnOk, OnErr, IsErrAnd, refl, sym, ap, ◌∙◌, append_assoc, arith, if◌then◌else◌}
use Rattle.std.proofs.lemmas.Bool.Decides.{nat_tests}
use Rattle.std.proofs.Math.Path.{subst}
use Rattle.std.proofs.lemmas.List.{append-nil}
use Rattle.std.proofs.lemmas.Grind.{flat_map-append}
use Rattle.std.specs.List.{flat_map}
use Rattle.std.proofs.lemmas.Option.{slice_get_past}
use Rattle.std.proofs.lemmas.List.Sums.{sum_by-append}
use Rattle.edge_traits.specs.declared.status.Status.TheVariants as statuses
use Rattle.command_frame.specs.Lines.{passes, ends_run}
use Rattle.path_laws.specs.declared.effects.PathEffects.{PathEffects}
use Rattle.path_laws.specs.declared.effects.UpAt.{UpAt}
use Rattle.path_laws.specs.declared.places.PathEnd.{PathEnd}
use Rattle.ltp_session.specs.Engine.{EngineStep, SubmitFault}
use Rattle.ltp_engine.specs.declared.refused.SubmitRefused.{SubmitRefused}
use Rattle.ltp_engine.specs.Refused.{refusal_of}
use Rattle.ltp_engine.specs.Steps.{IsFault}
use Rattle.path_laws.specs.Places.{node_place}
use Rattle.path_laws.specs.Path.{PathSetup, Path, PathEvent, sends, delivers, clock_shows, sends_block, path_step, path_run}
use Rattle.path_laws.specs.Log.{ups_in}
use Rattle.path_world.specs.Values.{PathValue, octets_in, nothing_told}
use Rattle.path_world.specs.Shows.{path_after}
use Rattle.path_world.specs.Steps.{Happens, Stays, OfSend}
use Rattle.path_world.specs.Drain.{ups_told}
use Rattle.world_run.specs.Shows.{StandsOn, sent_at_line, told_text, steps_text}
use Rattle.node_run.proofs.TextLineLemmas.{line-some, lines-some, some-after, some-before}
use Rattle.world_run.specs.Wanted.{MayWant}
use Rattle.world_run.specs.World.{says_event, happens, on_path, is_late, octets_sent, most_sent, unless_sent, unless_there, refused_text, event_text, events_text}
use Rattle.world_run.specs.WrittenLines.{up_words, up_line, effects_text, send_refusal, deliver_refusal}
use Rattle.world_run.proofs.StepLemmas.{run-append, same-length, text, octets, stands_after, octets-are, nothing-told, of_send}
use Rattle.make_run.specs.declared.making.Making.{Making}
use Rattle.make_run.specs.declared.stop.Stop.{Stop}
use Rattle.make_run.specs.declared.stop.Stop.TheVariants as stops
use Rattle.make_run.specs.Bundles.{sender_of, bundle_octets}
use Rattle.make_run.specs.Draws.{next, drawn}
use Rattle.make_run.specs.Script.{Plan, others, after_others, plans, send_by, a_wait, a_delivery, one_of_last, event_by, event_on, events_of}
use Rattle.make_run.specs.Making.{is_over, is_past, sum_after, count_at_ends, is_at_end}
use Rattle.make_run.specs.Ties.{Takes, Played, Plays, SoFar, Leaves, PlaysUpTo}
use Rattle.make_run.proofs.RunLemmas.{sum-append, text-append, ups-append, past-append}

-- ---- where `world` ends

pub over-late : (s : PathSetup) (w : Path) (event : PathEvent) → is_late event ≡ true → is_over (happens s w event) ≡ true
over-late s w event late = rw late refl

over-octets : (s : PathSetup) (w : Path) (event : PathEvent) → is_late event ≡ false
    → is_over (happens s w event) ≡ nat_lt most_sent (octets_sent (path_step s w event).path.sent)
over-octets s w event early =
    rw early (by_test (nat_lt most_sent (octets_sent (path_step s w event).path.sent)))
  where
    by_test : (t : Bool)
        → is_over (if t then ends_run [] statuses.Limit
        else passes (event_text s w event) (on_path s (path_step s w event).path)) ≡ t
    by_test true = refl
    by_test false = refl

-- ---- one event

-- an event was done
module _ (old mid new : Making) (event : PathEvent) (effects : PathEffects) (s : PathSetup) (w : Path)
    (stands : StandsOn old.path s w) (does : Happens old.path mid.path event effects)
    (sum : mid.sum ≡ old.sum) (ups : mid.ups ≡ old.ups) (path : new.path ≡ mid.path)
    (early : is_late event ≡ false) where
  ups-are : effects.ups ≡ (path_step s w event).effects.ups
  ups-are =
      ap (λ (e : PathEffects). e.ups) (does.told stands.start stands.events stands.run)
      ∙ (ap (λ x. (path_step x (path_after old.path stands.start stands.events) event).effects.ups) (sym stands.setup)
      ∙ ap (λ x. (path_step s x event).effects.ups) (sym stands.path))

  module _ (none : refused_text s w event ≡ []) where
    text-is : told_text effects ≡ event_text s w event
    unfolding event_text
    text-is = rw none (text old.path mid.path event effects s w stands does)

    done : octets_in mid.path.sent ≤ most_sent → Takes mid new (told_text effects) (count_at_ends effects.ups)
        → Played s w event old new
    done few takes =
        let octets-are = octets old.path mid.path event effects s w stands does in
        let low : octets_sent (path_step s w event).path.sent ≤ most_sent = rw octets-are at few in
        record {
          stands = rw path (stands_after old.path mid.path event effects s w stands does low);
          goes_on = over-octets s w event early ∙ grind (arith, nat_tests, low);
          takes = record {
            sum = rw (← sum, ← text-is) takes.sum;
            ups = rw (← ups, ← ups-are) takes.ups;
          };
        }

    pub plays-done : (result : Result (Unit {0}) Stop) → OnOk result (octets_in mid.path.sent ≤ most_sent)
        → (result ≡ Err stops.Limit → most_sent < octets_in mid.path.sent)
        → OnOk result (Takes mid new (told_text effects) (count_at_ends effects.ups))
        → (result ≡ Err stops.Memory → MayWant old.path (says_event event) (happens s w event)) → Plays s w event old new result
    plays-done (Ok x) few past takes wants = done few takes
    plays-done (Err stops.Limit) few past takes wants =
        let octets-are = octets old.path mid.path event effects s w stands does in
        let high : most_sent < octets_sent (path_step s w event).path.sent = rw octets-are at (past refl) in
        over-octets s w event early ∙ grind (arith, nat_tests, high)
    plays-done (Err stops.Memory) few past takes wants = wants refl

-- an event was not done, and that was written
module _ (old mid new : Making) (event : PathEvent) (s : PathSetup) (w : Path) (stands : StandsOn old.path s w)
    (stays : Stays old.path mid.path event) (sum : mid.sum ≡ old.sum) (ups : mid.ups ≡ old.ups)
    (path : new.path ≡ mid.path) (early : is_late event ≡ false) where
  nothing : effects_text (length w.sent) (path_step s w event).effects ≡ []
  nothing = sym (text old.path mid.path event nothing_told s w stands stays.happens) ∙ nothing-told

  no-ups : (path_step s w event).effects.ups ≡ []
  no-ups = sym (ups-are old mid new event nothing_told s w stands stays.happens sum ups path early)

  few : octets_sent (path_step s w event).path.sent ≤ most_sent
  few =
      let kept : octets_sent (path_step s w event).path.sent ≡ octets_sent w.sent =
      sym (octets old.path mid.path event nothing_told s w stands stays.happens)
      ∙ (ap (λ (v : PathValue). octets_in v.sent) stays.same ∙ octets-are old.path s w stands) in
      rw kept stands.few

  pub plays-refused : (refusal : List ℕ) → refused_text s w event ≡ refusal → Takes mid new refusal 0
      → Played s w event old new
  unfolding event_text
  plays-refused refusal is takes =
      let low = few in
      record {
        stands = rw path (stands_after old.path mid.path event nothing_told s w stands stays.happens low);
        goes_on = over-octets s w event early ∙ grind (arith, nat_tests, low);
        takes = record {
          sum = rw (is, nothing, append-nil refusal, ← sum) takes.sum;
          ups = rw (no-ups, ← ups) takes.ups;
        };
      }

-- ---- where memory ran out

-- blocks that came whole have lines
pub ups-text : (e : PathEffects) → 0 < length e.ups → 0 < length (told_text e)
unfolding told_text
ups-text e some =
    some-after (flat_map sent_at_line e.sent) _ (some-before (flat_map up_line e.ups) _ (lines-some up_line (λ up. line-some (up_words up)) e.ups some))

pub ups-wanted : {T E : Type 0} (e : PathEffects) → 0 < length e.ups → (result : Result T E) → OnErr result (0 < length (told_text e))
ups-wanted e some (Ok x) = tt
ups-wanted e some (Err fault) = ups-text e some

pub count-some : (ups : List UpAt) → 0 < count_at_ends ups → 0 < length ups
count-some [] some = absurd (omega (arith, some))
count-some (up ∷ ups) some = omega arith

-- where it may be wanted
pub plays-out : (s : PathSetup) (w : Path) (event : PathEvent) (old new : Making) → MayWant old.path (says_event event) (happens s w event)
    → (result : Result (Unit {0}) Stop) → IsErrAnd result (λ other. other ≡ stops.Memory) → Plays s w event old new result
plays-out s w event old new wants (Ok x) is = absurd is
plays-out s w event old new wants (Err stops.Limit) is = absurd (cc)
plays-out s w event old new wants (Err stops.Memory) is = wants

-- ---- one more event

pub count-append : (xs ys : List UpAt) → count_at_ends (xs ++ ys) ≡ count_at_ends xs + count_at_ends ys
count-append xs ys = sum_by-append (λ (up : UpAt). cond (is_at_end up.place) 1 0) xs ys

module _ (s : PathSetup) (w : Path) (played : List PathEvent) (event : PathEvent) where
  run-one : path_run s w (played ++ event ∷ []) ≡ (path_step s (path_run s w played) event).path
  unfolding path_run
  run-one = run-append s w played (event ∷ [])

  text-one : events_text s w (played ++ event ∷ []) ≡ events_text s w played ++ event_text s (path_run s w played) event
  unfolding events_text
  text-one =
      text-append s w played (event ∷ [])
      ∙ ap (λ t. events_text s w played ++ t) (append-nil (event_text s (path_run s w played) event))

  ups-one : ups_in s w (played ++ event ∷ []) ≡ ups_in s w played ++ (path_step s (path_run s w played) event).effects.ups
  unfolding ups_in
  ups-one =
      ups-append s w played (event ∷ [])
      ∙ ap (λ t. ups_in s w played ++ t) (append-nil (path_step s (path_run s w played) event).effects.ups)

  past-one : (played_fits : is_past s w played ≡ false) (more : List PathEvent)
      → is_past s w (played ++ event ∷ more)
      ≡ (is_over (happens s (path_run s w played) event) || is_past s (path_step s (path_run s w played) event).path more)
  unfolding is_past
  past-one fits more = past-append s w played (event ∷ more) ∙ rw fits refl

  more-so-far : (old new : Making) → SoFar s w played old → Played s (path_run s w played) event old new
      → SoFar s w (played ++ event ∷ []) new
  unfolding is_past
  more-so-far old new so_far did = record {
    stands = rw run-one did.stands;
    fits = past-one so_far.fits [] ∙ rw did.goes_on refl;
    sum = did.takes.sum ∙ (ap (λ n. sum_after n (event_text s (path_run s w played) event)) so_far.sum
        ∙ (sym (sum-append 0 (events_text s w played) (event_text s (path_run s w played) event))
        ∙ ap (sum_after 0) (sym text-one)));
    ups = did.takes.ups ∙ (ap (λ n. n + count_at_ends (path_step s (path_run s w played) event).effects.ups) so_far.ups
        ∙ (sym (count-append (ups_in s w played) (path_step s (path_run s w played) event).effects.ups)
        ∙ ap count_at_ends (sym ups-one)));
  }

-- ---- the next plan

module _ (s : PathSetup) (w : Path) (script : List PathEvent) (plan : Plan) (more : List Plan) (old new : Making)
    (leaves : Leaves s w script (plan ∷ more) old) where
  abbrev at : Path
  at = path_run s w leaves.played

  abbrev event : PathEvent
  event = event_on at plan

  script-is : script ≡ leaves.played ++ (event ∷ events_of s (path_step s at event).path more)
  unfolding events_of
  script-is = leaves.goes_on

  goes-on : Played s at event old new → Leaves s w script more new
  goes-on did = record {
    played = leaves.played ++ event ∷ [];
    so_far = more-so-far s w leaves.played event old new leaves.so_far did;
    goes_on = script-is ∙ rw (run-one s w leaves.played event)
        (sym (append_assoc leaves.played (event ∷ []) (events_of s (path_step s at event).path more)));
  }

  pub plays-on : (result : Result (Unit {0}) Stop)
      → ((x : Path) → StandsOn old.path s x → Plays s x (event_on x plan) old new result)
      → PlaysUpTo s w script more new result
  plays-on (Ok x) plays = goes-on (plays at leaves.so_far.stands)
  plays-on (Err stops.Limit) plays =
      let over = plays at leaves.so_far.stands in
      ap (is_past s w) script-is
      ∙ (past-one s w leaves.played event leaves.so_far.fits (events_of s (path_step s at event).path more) ∙ rw over refl)
  plays-on (Err stops.Memory) plays = record {
    earlier = leaves.played;
    event = event;
    later = events_of s (path_step s at event).path more;
    script_is = script-is;
    fits = leaves.so_far.fits;
    path = old.path;
    stands = leaves.so_far.stands;
    wants = plays at leaves.so_far.stands;
  }

-- ---- which event is planned

pub a-wait : (r t : ℕ) → r % 4 ≡ 3 → event_by r t ≡ a_wait (t % 20000)
a-wait r t is =
    let test : (r % 4 == 3) ≡ true = eq-eqb (r % 4) 3 is in
    rw test refl

pub a-delivery : (r t : ℕ) → (r % 4 ≡ 3 → ⊥) → event_by r t ≡ a_delivery t
a-delivery r t other =
    let test : (r % 4 == 3) ≡ false = grind (arith, nat_tests, other) in
    rw test refl

pub waits-so : (r t drawn_r drawn_t : ℕ) → r % 4 ≡ 3 → r ≡ drawn_r → t ≡ drawn_t → a_wait (t % 20000) ≡ event_by drawn_r drawn_t
waits-so r t drawn_r drawn_t is first second = sym (rw (← first, ← second) (a-wait r t is))

pub delivers-so : (r t drawn_r drawn_t : ℕ) → (r % 4 ≡ 3 → ⊥) → r ≡ drawn_r → t ≡ drawn_t → a_delivery t ≡ event_by drawn_r drawn_t
delivers-so r t drawn_r drawn_t other first second = sym (rw (← first, ← second) (a-delivery r t other))

pub sends-so : (end : PathEnd) (octets : List ℕ) (i r drawn_r : ℕ) → end ≡ sender_of i → octets ≡ bundle_octets i (1 + r % 6000)
    → r ≡ drawn_r → (x : Path) → sends end octets ≡ event_on x (send_by i drawn_r)
sends-so end octets i r drawn_r sender is draw x = rw (sender, is, draw) refl

-- ---- counts and sums

pub takes-more : (a b c : Making) (text more : List ℕ) (n m : ℕ) → Takes a b text n → Takes b c more m → Takes a c (text ++ more) (n + m)
takes-more a b c text more n m first second = record {
  sum = second.sum ∙ (ap (λ k. sum_after k more) first.sum ∙ sym (sum-append a.sum text more));
  ups = omega (arith, first.ups, second.ups);
}

pub takes-end : (a b c : Making) (text more : List ℕ) (n : ℕ) → Takes a b text n → Takes b c more 0 → Takes a c (text ++ more) n
takes-end a b c text more n first second = record {
  sum = second.sum ∙ (ap (λ k. sum_after k more) first.sum ∙ sym (sum-append a.sum text more));
  ups = omega (arith, first.ups, second.ups);
}

pub takes-none : (m : Making) → Takes m m [] 0
unfolding sum_after
takes-none m = record { sum = refl; ups = omega arith }

pub takes-step : (a b c : Making) (done : List PathEffects) (e : PathEffects) → Takes a b (steps_text done) (count_at_ends (ups_told done))
    → Takes b c (told_text e) (count_at_ends e.ups) → Takes a c (steps_text (done ++ e ∷ [])) (count_at_ends (ups_told (done ++ e ∷ [])))
takes-step a b c done e first second =
    rw (
      flat_map-append told_text done (e ∷ []),
      append-nil (told_text e),
      flat_map-append (λ (x : PathEffects). x.ups) done (e ∷ []),
      append-nil e.ups,
      count-append (ups_told done) e.ups,
    )
    (takes-more a b c (steps_text done) (told_text e) (count_at_ends (ups_told done)) (count_at_ends e.ups) first second)

-- ---- where it stopped

pub stops-so : (s : PathSetup) (w : Path) (script : List PathEvent) (plans more : List Plan) (old new : Making) (stop : Stop)
    → PlaysUpTo s w script plans old (Err stop) → (result : Result (Unit {0}) Stop) → IsErrAnd result (λ other. other ≡ stop)
    → PlaysUpTo s w script more new result
stops-so s w script plans more old new stop past (Ok x) is = absurd is
stops-so s w script plans more old new stop past (Err other) is = same-stop s w script plans more old new other (rw is past)
  where
    same-stop : (s : PathSetup) (w : Path) (script : List PathEvent) (plans more : List Plan) (old new : Making) (stop : Stop)
        → PlaysUpTo s w script plans old (Err stop) → PlaysUpTo s w script more new (Err stop)
    same-stop s w script plans more old new stops.Limit past = past
    same-stop s w script plans more old new stops.Memory past = past

-- ---- rounds

-- so many other events are left of a round, and then so many sends
abbrev pub due : ℕ → ℕ → ℕ → ℕ → List Plan
due k left i x = others k x ++ plans left i (after_others k x)

pub due-one : (k left i x : ℕ) → 0 < k → due k left i x
    ≡ event_by (drawn (next x)) (drawn (next (next x))) ∷ due (k - 1) left i (next (next x))
unfolding others after_others
due-one zero left i x some = absurd (omega arith)
due-one (suc k) left i x some =
    let same : suc k - 1 ≡ k = omega arith in
    rw same refl

pub due-none : (k left i x : ℕ) → k ≡ 0 → due k left i x ≡ plans left i x
unfolding others after_others
due-none zero left i x none = refl
due-none (suc k) left i x none = absurd (omega arith)

pub due-all : (left i x : ℕ) → plans (suc left) i x ≡ send_by i (drawn (next x)) ∷ due 8 left (i + 1) (next x)
unfolding plans
due-all left i x = refl

pub plans-none : (left i x : ℕ) → left ≡ 0 → plans left i x ≡ []
unfolding plans
plans-none zero i x none = refl
plans-none (suc left) i x none = absurd (omega arith)

-- of so many other events so many are done, and one more is next
pub due-step : (s : PathSetup) (w : Path) (script : List PathEvent) (m : Making) (n counter left i x : ℕ) → counter < n
    → Leaves s w script (due (n - counter) left i x) m
    → Leaves s w script (event_by (drawn (next x)) (drawn (next (next x))) ∷ due (n - (counter + 1)) left i (next (next x))) m
due-step s w script m n counter left i x inside leaves =
    let some : 0 < n - counter = omega arith in
    let same : n - counter - 1 ≡ n - (counter + 1) = omega arith in
    subst (λ plans. Leaves s w script plans m)
    (due-one (n - counter) left i x some
    ∙ ap (λ k. event_by (drawn (next x)) (drawn (next (next x))) ∷ due k left i (next (next x))) same) leaves

pub due-end : (s : PathSetup) (w : Path) (script : List PathEvent) (m : Making) (n counter left i x : ℕ) → n ≤ counter
    → Leaves s w script (due (n - counter) left i x) m → Leaves s w script (plans left i x) m
due-end s w script m n counter left i x past leaves =
    subst (λ plans. Leaves s w script plans m) (due-none (n - counter) left i x (omega arith)) leaves

pub plans-step : (s : PathSetup) (w : Path) (script : List PathEvent) (m : Making) (count i x : ℕ) → i < count
    → Leaves s w script (plans (count - i) i x) m → Leaves s w script (plans (suc (count - (i + 1))) i x) m
plans-step s w script m count i x inside leaves =
    let same : count - i ≡ suc (count - (i + 1)) = omega arith in
    rw same at leaves

pub plans-end : (s : PathSetup) (w : Path) (script : List PathEvent) (m : Making) (count i x : ℕ) → count ≤ i
    → Leaves s w script (plans (count - i) i x) m → Leaves s w script [] m
plans-end s w script m count i x past leaves =
    subst (λ plans. Leaves s w script plans m) (plans-none (count - i) i x (omega arith)) leaves

-- ---- why an event isn't done

pub sends-refused : (old mid new : Making) (end : PathEnd) (bundle : List ℕ) (s : PathSetup) (w : Path) (stands : StandsOn old.path s w)
    (cause : SubmitRefused) → Stays old.path mid.path (sends end bundle) → mid.sum ≡ old.sum → mid.ups ≡ old.ups → new.path ≡ mid.path
    → OfSend (IsFault cause) old.path end bundle
    → ((fault : SubmitFault) → cause ≡ refusal_of fault → Takes mid new (send_refusal (node_place end) fault) 0)
    → Played s w (sends end bundle) old new
sends-refused old mid new end bundle s w stands cause stays sum ups path holds takes =
    by_step (sends_block s w end bundle) refl (of_send old.path mid.path end bundle s w stands (IsFault cause) holds)
  where
    by_step : (done : Result EngineStep SubmitFault) → sends_block s w end bundle ≡ done → IsFault cause done
        → Played s w (sends end bundle) old new
    by_step (Ok step) is fault = absurd fault
    by_step (Err fault) is which =
        plays-refused old mid new (sends end bundle) s w stands stays sum ups path refl (send_refusal (node_place end) fault)
        (ap (unless_sent end) is) (takes fault which)

pub delivers-refused : (old mid new : Making) (k : ℕ) (s : PathSetup) (w : Path) (stands : StandsOn old.path s w)
    → length old.path.sent ≤ k → Stays old.path mid.path (delivers k) → mid.sum ≡ old.sum → mid.ups ≡ old.ups → new.path ≡ mid.path
    → Takes mid new deliver_refusal 0 → Played s w (delivers k) old new
delivers-refused old mid new k s w stands past stays sum ups path takes =
    plays-refused old mid new (delivers k) s w stands stays sum ups path refl deliver_refusal
    (ap unless_there (slice_get_past w.sent k (rw (same-length old.path s w stands) at past))) takes

-- ---- which datagram, and which moment

pub delivers-as : (v : PathValue) (s : PathSetup) (w : Path) → StandsOn v s w → (n k t : ℕ) → n ≡ length v.sent → k ≡ one_of_last n t
    → delivers k ≡ event_on w (a_delivery t)
delivers-as v s w stands n k t count is =
    let same : n ≡ length w.sent = count ∙ same-length v s w stands in
    rw (is, same) refl

now-is : (v : PathValue) (s : PathSetup) (w : Path) → StandsOn v s w → w.now ≡ v.moment
now-is v s w stands = ap (λ (x : Path). x.now) stands.path ∙ stands.run.path.now

pub waits-as : (v : PathValue) (s : PathSetup) (w : Path) → StandsOn v s w → (n now ms : ℕ) → n ≡ v.moment → now ≡ n + ms
    → clock_shows now ≡ event_on w (a_wait ms)
waits-as v s w stands n now ms moment is =
    let same : n ≡ w.now = moment ∙ sym (now-is v s w stands) in
    rw (is, same) refl

pub waits-late : (v : PathValue) (s : PathSetup) (w : Path) → StandsOn v s w → (n ms : ℕ) → n ≡ v.moment → 2 ^ 62 ≤ n + ms
    → is_over (happens s w (event_on w (a_wait ms))) ≡ true
waits-late v s w stands n ms moment late =
    let same : n ≡ w.now = moment ∙ sym (now-is v s w stands) in
    let test : 2 ^ 62 ≤ w.now + ms = rw same at late in
    over-late s w (clock_shows (w.now + ms)) (grind (arith, nat_tests, test))
