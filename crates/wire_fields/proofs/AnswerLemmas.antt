-- A piece of a stream has one answer.

use Rattle.std.proofs.Common.{◌≡◌, ℕ, ◌+◌, ◌-◌, ◌≤◌, ltb, true, false, List, ◌++◌, length, drop, Option, Some, None, refl, sym, ap, ◌∙◌, inl, inr, arith, append_assoc, length-append, take-append-drop}
use Rattle.std.proofs.lemmas.Bool.{cases_lt, lt-ltb, le-ltb}
use Rattle.std.proofs.lemmas.List.{length-take-le, take_all}
use Rattle.wire_fields.specs.Reading.{read, IsOctets}
use Rattle.wire_fields.specs.Streaming.{Streamed, Stream, took, refuses, wants_memory, Takes, near, answer_of, answer, HaveOneAnswer}
use Rattle.wire_fields.proofs.ResultLemmas.{found}
use Rattle.wire_fields.proofs.StayLemmas.{read-within}

module _ {C A : Type 0} (s : Streamed C A) (longest : ℕ) (old : Stream) (piece : List ℕ)
    (small : length old.kept ≤ longest) (fits : IsOctets (old.kept ++ piece)) where
  part : List ℕ
  part = near longest old piece

  rest : List ℕ
  rest = drop (longest - length old.kept) piece

  joined : (old.kept ++ part) ++ rest ≡ old.kept ++ piece
  unfolding part rest
  joined =
      append_assoc old.kept part rest
      ∙ ap (λ t. old.kept ++ t) (take-append-drop (longest - length old.kept) piece)

  long : (used : ℕ) → used ≤ length piece → length old.kept + used ≤ longest → used ≤ length part
  unfolding part
  long used low within =
      elim (cases_lt (length piece) (longest - length old.kept)) [
        | inl all ↦
            let same : near longest old piece ≡ piece = take_all (longest - length old.kept) piece (omega (arith, all)) in
            omega (arith, low, ap length same)
        | inr some ↦ omega (arith, within, small, length-take-le (longest - length old.kept) piece some)
      ]

  -- a value of the whole piece is one of its near part
  whole-near : (b : A) (used : ℕ) → used ≤ length piece → length old.kept + used ≤ longest
      → read s.format (old.kept ++ piece) 0 ≡ found b (length old.kept + used)
      → read s.format (old.kept ++ part) 0 ≡ found b (length old.kept + used)
  whole-near b used low within is =
      read-within s.format (old.kept ++ part) rest b (length old.kept + used) (rw joined fits)
      (omega (arith, long used low within, length-append old.kept part)) (ap (λ t. read s.format t 0) joined ∙ is)

  taken : (used : ℕ) (found : Option A) (new : Stream) → Takes s longest old piece used found new
      → took used found ≡ answer s longest old piece
  unfolding part
  taken used (Some b) new (low, within, is, legal, stands) =
      let back : length old.kept + used - length old.kept ≡ used = omega arith in
      sym (ap (answer_of s old piece (ltb longest (length old.kept + length piece))) (whole-near b used low within is)
      ∙ ap (λ n. took n (Some b)) back)
  taken used None new (low, within, (at, is), stands) =
      let all : near longest old piece ≡ piece = take_all (longest - length old.kept) piece (omega (arith, within)) in
      let none = le-ltb longest (length old.kept + length piece) within in
      rw (low, none) (sym (ap (answer_of s old piece false) (ap (λ t. read s.format (old.kept ++ t) 0) all ∙ is)))

pub one-answer : {C A : Type 0} (s : Streamed C A) (longest : ℕ) → HaveOneAnswer s longest
one-answer s longest old new piece (took used found) small fits feeds whole = taken s longest old piece small fits used found new feeds
one-answer s longest old new piece (refuses at cause) small fits (inl refused) whole =
    rw refused.spot (sym (ap (answer_of s old piece (ltb longest (length old.kept + length piece))) refused.reads))
one-answer s longest old new piece (refuses at cause) small fits (inr spread) whole =
    let more = lt-ltb longest (length old.kept + length piece) spread.more in
    rw (spread.spot, spread.named, more) (sym (ap (answer_of s old piece true) spread.begun.1))
one-answer s longest old new piece wants_memory small fits feeds whole = absurd (whole refl)
