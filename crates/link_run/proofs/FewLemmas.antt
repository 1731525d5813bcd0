-- A line has at most 100,000 picks, and so at most as many old datagrams come by them.

use Rattle.std.proofs.Common.{◌≡◌, ℕ, ◌≤◌, nat_lt, Bool, true, false, List, [], ◌∷◌, length, codes, Option, None, Some, Result, Ok, Err, refl, sym, ap, ◌∙◌, arith, subst, if◌then◌else◌}
use Rattle.std.proofs.lemmas.Bool.{ltb-false}
use Rattle.std.proofs.lemmas.List.{length-map}
use Rattle.endpoint.specs.Numeral.{number_of}
use Rattle.ltp_session.specs.Engine.{Party}
use Rattle.ltp_picks.specs.Picks.{Crossing, Pick, Turn, after_pick, copies, copies_of, old_copy, oldest_of, pick_turn}
use Rattle.replay_script.specs.declared.fault.LineFault.{LineFault}
use Rattle.replay_script.specs.declared.fault.LineFault.TheVariants as faults
use Rattle.replay_script.specs.declared.link.LinkEvent.{LinkEvent}
use Rattle.replay_script.specs.declared.link.LinkEvent.TheVariants as events
use Rattle.replay_script.specs.declared.picks.PickWord.{PickWord}
use Rattle.replay_script.specs.Events.{hex_of, joined, number_line, number_word, or_fault, with_number}
use Rattle.replay_script.specs.LinkEvents.{is_link_line, link_drain_line, link_event_by, link_event_of, link_line, link_numbers, link_send_line, link_send_words, link_words, pick_of, picks_of, two_words, window_line}
use Rattle.replay_script.specs.Words.{is_word, words_of}
use Rattle.replay_script.proofs.PathLemmas.{unless_fault}
use Rattle.link_run.specs.Link.{later_said}
use Rattle.link_run.specs.Picks.{said_pick, said_picks}

-- ---- as many picks as words

same-length : (words : List (List ℕ)) (picks : List PickWord) → picks_of words ≡ Some picks → length picks ≡ length words
unfolding picks_of
same-length [] picks is = let none : [] ≡ picks = cc in ap length (sym none)
same-length (word ∷ words) picks is = by_pick (pick_of word) (picks_of words) (λ rest those. same-length words rest those) is
  where
    by_pick : (pick : Option PickWord) (rest : Option (List PickWord)) → ((ps : List PickWord) → rest ≡ Some ps → length ps ≡ length words)
        → joined pick (λ p. joined rest (λ ps. Some (p ∷ ps))) ≡ Some picks
        → length picks ≡ length (word ∷ words)
    by_pick None rest deeper is = absurd (cc)
    by_pick (Some p) None deeper is = absurd (cc)
    by_pick (Some p) (Some ps) deeper is =
        let same : p ∷ ps ≡ picks = cc in
        let few = deeper ps refl in
        ap length (sym same) ∙ omega (arith, few)

-- ---- a line

module _ (picks : List PickWord) where
  abbrev event : LinkEvent
  event = events.DrainBy picks

  abbrev Few : Type 0
  Few = length picks ≤ 100000

  no_link : (words : List (List ℕ)) → link_line words ≡ Ok (events.DrainBy picks) → length picks ≤ 100000
  no_link words is =
      let (link, link_is, numbered) = unless_fault (link_words words) faults.Word _ event is in
      let (numbers, numbers_are, said) = unless_fault (link_numbers link) faults.Number _ event numbered in
      absurd (cc)

  no_window : (words : List (List ℕ)) → window_line words ≡ Ok (events.DrainBy picks) → length picks ≤ 100000
  no_window words is =
      let (window, window_is, from) = unless_fault (two_words words) faults.Word _ event is in
      let (n, n_is, to) = unless_fault (number_of window.0) faults.Number _ event from in
      let (m, m_is, said) = unless_fault (number_of window.1) faults.Number _ event to in
      absurd (cc)

  no_send : (words : List (List ℕ)) → link_send_line words ≡ Ok (events.DrainBy picks) → length picks ≤ 100000
  no_send words is =
      let (send, send_is, hex) = unless_fault (link_send_words words) faults.Word _ event is in
      let (body, body_is, said) = unless_fault (hex_of send.1) faults.Hex _ event hex in
      absurd (cc)

  no_deliver : (k : Result ℕ LineFault) → with_number events.Deliver k ≡ Ok (events.DrainBy picks) → length picks ≤ 100000
  no_deliver (Ok k) is = absurd (cc)
  no_deliver (Err fault) is = absurd (cc)

  no_clock : (now : Result ℕ LineFault) → with_number events.Clock now ≡ Ok (events.DrainBy picks) → length picks ≤ 100000
  no_clock (Ok now) is = absurd (cc)
  no_clock (Err fault) is = absurd (cc)

  few_drain : (words : List (List ℕ)) → link_drain_line words ≡ Ok (events.DrainBy picks) → length picks ≤ 100000
  few_drain [] is = absurd (cc)
  few_drain (word ∷ words) is = by_many (nat_lt 100000 (length (word ∷ words))) refl is
    where
      by_many : (b : Bool) → nat_lt 100000 (length (word ∷ words)) ≡ b
          → (if b then Err faults.Word else or_fault (picks_of (word ∷ words)) faults.Number (λ p. Ok (events.DrainBy p))) ≡ Ok (events.DrainBy picks)
          → length picks ≤ 100000
      by_many true many is = absurd (cc)
      by_many false few is =
          let (ps, those, said) = unless_fault (picks_of (word ∷ words)) faults.Number _ event is in
          let same : ps ≡ picks = cc in
          let long = same-length (word ∷ words) ps those in
          let low = ltb-false 100000 (length (word ∷ words)) few in
          subst (λ x. length x ≤ 100000) same (omega (arith, long, low))

  by_first : (words : List (List ℕ)) (link window send deliver clock drain : Bool)
      → (if link then link_line words
      else if window then window_line words
      else if send then link_send_line words
      else if deliver then number_line events.Deliver words
      else if clock then number_line events.Clock words
      else if drain then link_drain_line words
      else Err faults.Word) ≡ Ok (events.DrainBy picks) → length picks ≤ 100000
  by_first words true window send deliver clock drain is = no_link words is
  by_first words false true send deliver clock drain is = no_window words is
  by_first words false false true deliver clock drain is = no_send words is
  by_first words false false false true clock drain is = no_deliver (number_word words) is
  by_first words false false false false true drain is = no_clock (number_word words) is
  by_first words false false false false false true is = few_drain words is
  by_first words false false false false false false is = absurd (cc)

  by_words : (words : List (List ℕ)) → link_event_by words ≡ Ok (events.DrainBy picks) → length picks ≤ 100000
  by_words [] is = absurd (cc)
  by_words (first ∷ words) is =
      by_first words (is_word first (codes "link")) (is_word first (codes "window")) (is_word first (codes "send")) (is_word first (codes "deliver"))
      (is_word first (codes "clock")) (is_word first (codes "drain")) is

  pub few-picks : (line : List ℕ) → later_said line ≡ Ok (events.DrainBy picks) → length picks ≤ 100000
  unfolding link_event_of
  few-picks line is = by_test (is_link_line line) is
    where
      by_test : (t : Bool) → (if t then Err faults.Word else link_event_of line) ≡ Ok (events.DrainBy picks) → length picks ≤ 100000
      by_test true is = absurd (cc)
      by_test false is = by_words (words_of line) is

-- ---- at most as many old datagrams come

pub copies-few : (parties : Party × Party) (d : Crossing) (picks : List Pick) → copies parties d picks ≤ length picks
unfolding copies
copies-few parties d [] = omega arith
copies-few parties d (pick ∷ picks) =
    let rest = copies-few parties (after_pick parties d (pick_turn d pick)) picks in
    let one = one-copy pick (pick_turn d pick) in
    omega (arith, rest, one)
  where
    one-copy : (pick : Pick) (o : Option Turn) → copies_of pick o ≤ 1
    one-copy (oldest_of from) o = omega arith
    one-copy (old_copy k) None = omega arith
    one-copy (old_copy k) (Some t) = omega arith

pub said-few : (parties : Party × Party) (d : Crossing) (words : List PickWord) → length words ≤ 100000 → copies parties d (said_picks words) ≤ 100000
said-few parties d words few =
    let all = copies-few parties d (said_picks words) in
    let same = length-map words said_pick in
    omega (arith, few, all, same)
