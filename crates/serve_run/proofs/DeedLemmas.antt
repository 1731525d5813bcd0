-- What is done outside, call after call.
use Rattle.std.proofs.Common.{◌≡◌, ℕ, true, List, [], ◌∷◌, ◌++◌, Option, None, Some, refl, sym, ◌∙◌, ap, append_assoc}
use Rattle.std.proofs.lemmas.List.{append-nil}
use Rattle.edge_traits.specs.Content.{Gains}
use Rattle.edge_traits.proofs.ContentLemmas.{Gains-more}
use Rattle.serve_run.specs.declared.stop.Stop.{Stop}
use Rattle.serve_run.specs.declared.stop.Stop.TheVariants.{Fault, NoMemory}
use Rattle.serve_run.specs.Turns.{Call, clock_read, link_polled, datagram_sent, datagram_lost, lines_written, Made, IsWhole}
use Rattle.serve_run.specs.Deeds.{Deed, read_clock, polled_link, sent_datagram, lost_datagram, write_failed, written, deeds_with, deeds_of, call_text, text_of, link_line}
use Rattle.serve_run.specs.Tells.{BreaksOff, StopsDoing, AreSends}

-- ---- after sends

-- what is to be said of them waits
pub after-sends : (waiting : List ℕ) (a b : Made) → AreSends a → deeds_with waiting (a ++ b) ≡ deeds_with waiting a ++ deeds_with (waiting ++ text_of a) b
after-sends waiting [] b sends = ap (λ v. deeds_with v b) (sym (append-nil waiting))
after-sends waiting (clock_read now ∷ later) b sends = absurd sends.0
after-sends waiting (link_polled face polled ∷ later) b sends = absurd sends.0
after-sends waiting (datagram_sent face datagram ∷ later) b sends =
    ap (λ xs. sent_datagram face datagram ∷ xs) (after-sends waiting later b sends.1)
after-sends waiting (datagram_lost face datagram ∷ later) b sends =
    let wait = waiting ++ link_line face true in
    ap (λ xs. lost_datagram face datagram ∷ xs)
    (after-sends wait later b sends.1
    ∙ ap (λ v. deeds_with wait later ++ deeds_with v b) (append_assoc waiting (link_line face true) (text_of later)))
after-sends waiting (lines_written text ∷ later) b sends = absurd sends.0

-- sends are the same whatever waits
sends-alike : (waiting other : List ℕ) (a : Made) → AreSends a → deeds_with waiting a ≡ deeds_with other a
sends-alike waiting other [] sends = refl
sends-alike waiting other (clock_read now ∷ later) sends = absurd sends.0
sends-alike waiting other (link_polled face polled ∷ later) sends = absurd sends.0
sends-alike waiting other (datagram_sent face datagram ∷ later) sends =
    ap (λ xs. sent_datagram face datagram ∷ xs) (sends-alike waiting other later sends.1)
sends-alike waiting other (datagram_lost face datagram ∷ later) sends =
    ap (λ xs. lost_datagram face datagram ∷ xs)
    (sends-alike (waiting ++ link_line face true) (other ++ link_line face true) later sends.1)
sends-alike waiting other (lines_written text ∷ later) sends = absurd sends.0

pub sends-more : (a b : Made) → AreSends a → AreSends b → AreSends (a ++ b)
sends-more [] b first second = second
sends-more (call ∷ later) b first second = (first.0, sends-more later b first.1 second)

pub deeds-sends : (a b : Made) → AreSends a → AreSends b → deeds_of (a ++ b) ≡ deeds_of a ++ deeds_of b
deeds-sends a b first second =
    after-sends [] a b first ∙ ap (λ xs. deeds_of a ++ xs) (sends-alike (text_of a) [] b second)

-- the lines of a step after its sends
pub deeds-step : (a : Made) (text : List ℕ) → AreSends a → deeds_of (a ++ lines_written text ∷ []) ≡ deeds_of a ++ written (text_of a ++ text)
deeds-step a text sends =
    after-sends [] a (lines_written text ∷ []) sends ∙ ap (λ xs. deeds_of a ++ xs) (append-nil (written (text_of a ++ text)))

-- ---- after whole steps

after-whole : (waiting : List ℕ) (call : Call) (a b : Made) → IsWhole (call ∷ a)
    → deeds_with waiting (call ∷ a ++ b) ≡ deeds_with waiting (call ∷ a) ++ deeds_of b
after-whole waiting (clock_read now) [] b whole = refl
after-whole waiting (link_polled face polled) [] b whole =
    ap (λ xs. polled_link face polled ∷ (xs ++ deeds_of b)) (sym (append-nil (written (call_text (link_polled face polled)))))
after-whole waiting (datagram_sent face datagram) [] b whole = absurd whole
after-whole waiting (datagram_lost face datagram) [] b whole = absurd whole
after-whole waiting (lines_written text) [] b whole =
    ap (λ xs. xs ++ deeds_of b) (sym (append-nil (written (waiting ++ text))))
after-whole waiting (clock_read now) (next ∷ later) b whole =
    ap (λ xs. read_clock now ∷ xs) (after-whole [] next later b whole)
after-whole waiting (link_polled face polled) (next ∷ later) b whole =
    let text = written (call_text (link_polled face polled)) in
    ap (λ xs. polled_link face polled ∷ (text ++ xs)) (after-whole [] next later b whole)
    ∙ ap (λ xs. polled_link face polled ∷ xs) (sym (append_assoc text (deeds_of (next ∷ later)) (deeds_of b)))
after-whole waiting (datagram_sent face datagram) (next ∷ later) b whole =
    ap (λ xs. sent_datagram face datagram ∷ xs) (after-whole waiting next later b whole)
after-whole waiting (datagram_lost face datagram) (next ∷ later) b whole =
    ap (λ xs. lost_datagram face datagram ∷ xs) (after-whole (waiting ++ link_line face true) next later b whole)
after-whole waiting (lines_written text) (next ∷ later) b whole =
    ap (λ xs. written (waiting ++ text) ++ xs) (after-whole [] next later b whole)
    ∙ sym (append_assoc (written (waiting ++ text)) (deeds_of (next ∷ later)) (deeds_of b))

pub deeds-more : (a b : Made) → IsWhole a → deeds_of (a ++ b) ≡ deeds_of a ++ deeds_of b
deeds-more [] b whole = refl
deeds-more (call ∷ a) b whole = after-whole [] call a b whole

-- ---- where a write failed

pub breaks-after : (a b c : Option (List Deed)) (xs ys : List Deed) → Gains a b xs → BreaksOff b c ys → BreaksOff a c (xs ++ ys)
breaks-after a b None xs ys first second = tt
breaks-after a None (Some now) xs ys first second = absurd second
breaks-after None (Some mid) (Some now) xs ys first second = absurd first
breaks-after (Some earlier) (Some mid) (Some now) xs ys first (done, lacking, parts, after) = (
  xs ++ done,
  lacking,
  ap (λ v. xs ++ v) parts ∙ sym (append_assoc xs done (written lacking)),
  after ∙ ap (λ v. v ++ (done ++ write_failed ∷ [])) first ∙ append_assoc earlier xs (done ++ write_failed ∷ [])
      ∙ ap (λ v. earlier ++ v) (sym (append_assoc xs done (write_failed ∷ []))),
)

pub did-until : (stop : Stop) (a b c : Option (List Deed)) (xs ys : List Deed) → Gains a b xs → StopsDoing stop b c ys → StopsDoing stop a c (xs ++ ys)
did-until Fault a b c xs ys first second = breaks-after a b c xs ys first second
did-until NoMemory a b c xs ys first second = Gains-more a b c xs ys first second

-- one that failed before it took anything
pub breaks-at-once : (a b : Option (List Deed)) (text : List ℕ) → Gains a b (write_failed ∷ []) → BreaksOff a b (written text)
breaks-at-once a None text gains = tt
breaks-at-once None (Some now) text gains = absurd gains
breaks-at-once (Some earlier) (Some now) text gains = ([], text, refl, gains)
