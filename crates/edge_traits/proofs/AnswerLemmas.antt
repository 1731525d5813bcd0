-- How a run went that read its input, and then answered it.
use Rattle.std.proofs.Common.{◌≡◌, ℕ, ◌<◌, ◌≤◌, List, [], ◌++◌, length, Option, None, Some, IfSome, refl, ap, append_assoc, ◌∷◌, arith, ◌+◌}
use Rattle.std.proofs.Math.Seq.{take-nil}
use Rattle.std.specs.Io.KnownBytes.{Consumes, IsAtEnd}
use Rattle.edge_traits.specs.declared.status.Status.{Status}
use Rattle.edge_traits.specs.declared.status.Status.TheVariants as statuses
use Rattle.edge_traits.specs.Content.{read_front}
use Rattle.edge_traits.specs.Faults.{Calls, NoneFailed, LastFailed}
use Rattle.edge_traits.specs.Settled.{Settled, put_before, gathered}
use Rattle.edge_traits.specs.Outcome.{SourceTells, SinkTells, Wrote, WentReading, WentWriting, Ran, WroteAnswer}
use Rattle.edge_traits.proofs.ContentLemmas.{Gains-none, GainsFront-none}
use Rattle.edge_traits.proofs.FaultsLemmas.{NoneFailed-same}

pub put_before-put_before : (first second : List ℕ) (answer : Settled)
    → put_before first (put_before second answer) ≡ put_before (first ++ second) answer
put_before-put_before first second answer = rw append_assoc refl

-- a read failed, and nothing was written
pub ran_fault : (answer : List ℕ → Settled) (taken : List ℕ) (source source_now : SourceTells) (sink : SinkTells)
    → Consumes source.left source_now.left taken → LastFailed source.calls source_now.calls
    → Ran (gathered answer) statuses.ReadFault source source_now sink sink
ran_fault answer taken source source_now sink came reads = record {
  wrote = wrote source.left source_now.left came;
  reads = reads;
  writes = NoneFailed-same sink.calls;
  to_end = λ done. absurd (cc);
}
  where
    wrote : (left now : Option (List ℕ)) → Consumes left now taken
        → IfSome left (λ input. Wrote (gathered answer) statuses.ReadFault input now sink.held sink.held)
    wrote None now came = tt
    wrote (Some input) None came = absurd came
    wrote (Some input) (Some rest) came = (taken, came, refl, Gains-none sink.held)

-- there was no memory for the octets that came, and nothing was written
pub ran_memory : (answer : List ℕ → Settled) (source source_now : SourceTells) (sink : SinkTells)
    → IfSome source.left (λ input. 0 < length input) → NoneFailed source.calls source_now.calls
    → Ran (gathered answer) statuses.Memory source source_now sink sink
ran_memory answer source source_now sink some reads = record {
  wrote = wrote source.left some;
  reads = reads;
  writes = NoneFailed-same sink.calls;
  to_end = λ done. absurd (cc);
}
  where
    wrote : (left : Option (List ℕ)) → IfSome left (λ input. 0 < length input)
        → IfSome left (λ input. Wrote (gathered answer) statuses.Memory input source_now.left sink.held sink.held)
    wrote None some = tt
    wrote (Some input) some = (omega (arith, some), GainsFront-none sink.held (answer input).text)

-- what was read was answered: its answer is that to the input, and no answer to an input past the
-- limit is Done
module _ (answer : List ℕ → Settled) (most : ℕ) (front : (all : List ℕ) → answer (read_front most all) ≡ answer all)
    (within : (all : List ℕ) → (answer all).ends ≡ Some statuses.Done → length all ≤ most) where
  wrote_all : (left now : Option (List ℕ)) (input : List ℕ) (status : Status) (before after : Option (List ℕ))
      → IfSome left (λ all. input ≡ read_front most all) → WroteAnswer (answer input) status before after
      → IfSome left (λ all. Wrote (gathered answer) status all now before after)
  wrote_all None now input status before after read wrote = tt
  wrote_all (Some all) now input statuses.Done before after read wrote = rw (read, front all) at wrote
  wrote_all (Some all) now input statuses.Refused before after read wrote = rw (read, front all) at wrote
  wrote_all (Some all) now input statuses.Limit before after read wrote = rw (read, front all) at wrote
  wrote_all (Some all) now input statuses.WriteFault before after read wrote = rw (read, front all) at wrote
  wrote_all (Some all) now input statuses.Usage before after read wrote = absurd wrote
  wrote_all (Some all) now input statuses.ReadFault before after read wrote = absurd wrote
  wrote_all (Some all) now input statuses.Memory before after read wrote = absurd wrote

  no_fault : (input : List ℕ) (status : Status) (a b : Option (List ℕ)) (x y : Calls) → WroteAnswer (answer input) status a b
      → NoneFailed x y → WentReading status x y
  no_fault input statuses.Done a b x y wrote reads = reads
  no_fault input statuses.Refused a b x y wrote reads = reads
  no_fault input statuses.Limit a b x y wrote reads = reads
  no_fault input statuses.WriteFault a b x y wrote reads = reads
  no_fault input statuses.Usage a b x y wrote reads = absurd wrote
  no_fault input statuses.ReadFault a b x y wrote reads = absurd wrote
  no_fault input statuses.Memory a b x y wrote reads = reads

  ended : (input : List ℕ) (left : Option (List ℕ)) (status : Status) (a b : Option (List ℕ)) → WroteAnswer (answer input) status a b
      → (length input ≤ most → IsAtEnd left) → status ≡ statuses.Done → IsAtEnd left
  ended input left statuses.Done a b wrote ends done = ends (within input wrote.0)
  ended input left statuses.Refused a b wrote ends done = absurd (cc)
  ended input left statuses.Limit a b wrote ends done = absurd (cc)
  ended input left statuses.WriteFault a b wrote ends done = absurd (cc)
  ended input left statuses.Usage a b wrote ends done = absurd (cc)
  ended input left statuses.ReadFault a b wrote ends done = absurd (cc)
  ended input left statuses.Memory a b wrote ends done = absurd (cc)

  pub ran_answered : (input : List ℕ) (status : Status) (source source_now : SourceTells) (sink sink_now : SinkTells)
      → IfSome source.left (λ all. input ≡ read_front most all) → (length input ≤ most → IsAtEnd source_now.left)
      → NoneFailed source.calls source_now.calls → WroteAnswer (answer input) status sink.held sink_now.held
      → WentWriting status sink.calls sink_now.calls → Ran (gathered answer) status source source_now sink sink_now
  ran_answered input status source source_now sink sink_now read ends reads wrote writes = record {
    wrote = wrote_all source.left source_now.left input status sink.held sink_now.held read wrote;
    reads = no_fault input status sink.held sink_now.held source.calls source_now.calls wrote reads;
    writes = writes;
    to_end = ended input source_now.left status sink.held sink_now.held wrote ends;
  }

  -- there was no memory for an answer to an input that has octets
  came : (left : Option (List ℕ)) (input : List ℕ) → IfSome left (λ all. input ≡ read_front most all) → 0 < length input
      → IfSome left (λ all. 0 < length all)
  unfolding read_front
  came None input read some = tt
  came (Some []) input read some = omega (arith, some, ap length read, ap length (take-nil {A = ℕ} (most + 1)))
  came (Some (octet ∷ all)) input read some = omega arith

  pub ran_unanswered : (input : List ℕ) (source source_now : SourceTells) (sink : SinkTells)
      → IfSome source.left (λ all. input ≡ read_front most all) → 0 < length input
      → NoneFailed source.calls source_now.calls → Ran (gathered answer) statuses.Memory source source_now sink sink
  ran_unanswered input source source_now sink read some reads =
      ran_memory answer source source_now sink (came source.left input read some) reads
