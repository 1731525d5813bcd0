-- There and back in octets: both views of a record that goes both ways become each other.
use Rattle.std.proofs.Common.{◌≡◌, ℕ, ◌+◌, ◌-◌, ◌*◌, ◌/◌, ◌%◌, ◌^◌, ◌<◌, ◌≤◌, Bool, true, false, not, List, [], ◌∷◌, ◌++◌, length, drop, Option, Some, None, refl, sym, ◌∙◌, ap, subst, arith}
use Rattle.std.proofs.Math.Seq.{take-length, drop-length}
use Rattle.std.proofs.lemmas.Bool.{or_parts, leb-false}
use Rattle.std.proofs.lemmas.List.{append-nil}
use Rattle.edge_traits.specs.declared.status.Status.TheVariants.{Done}
use Rattle.edge_traits.specs.Content.{most_input}
use Rattle.edge_traits.specs.Settled.{at_end, Settled, put_before}
use Rattle.command_frame.proofs.WithinLemmas.{within-low}
use Rattle.wire_fields.specs.Format.{Format, Spells}
use Rattle.wire_fields.specs.Refusal.{Begins}
use Rattle.wire_fields.specs.Reading.{IsOctets}
use Rattle.bundle6.specs.declared.bundle.Bundle6.{Bundle6}
use Rattle.bundle6.specs.Spelling.{canon6}
use Rattle.bundle6.specs.Legal.{Spells6}
use Rattle.bundle6.specs.Table as table6
use Rattle.bundle6.proofs.WritingLemmas.{written-is}
use Rattle.bundle7.specs.declared.bundle.Bundle7.{Bundle7}
use Rattle.bundle7.specs.Spelling.{octets7}
use Rattle.bundle7.specs.Legal.{Spells7}
use Rattle.bundle7.specs.Table as table7
use Rattle.bundle7.proofs.BlockLaws.{bundle-spelled, bundle-spells}
use Rattle.bundle_meaning.specs.declared.full.Full.{Full}
use Rattle.bundle_meaning.specs.Expiry.{slack_of}
use Rattle.fragments.specs.declared.join.Join.{Join}
use Rattle.translate.specs.declared.refused.Refused.{Refused}
use Rattle.translate.specs.declared.refused.Refused.TheVariants as causes
use Rattle.translate.specs.Sound.{IsSound}
use Rattle.translate.specs.View6.{view6_of, fits6}
use Rattle.translate.specs.View7.{view7_of, fits7}
use Rattle.translate.specs.Refusals.{first_that_holds}
use Rattle.translate.specs.Reading6.{residue6_of, full6_of, refusals6}
use Rattle.translate.specs.Reading7.{full7_of, refusals7}
use Rattle.translate.specs.Translation.{IsTranslatable6, IsTranslatable7, HasLifetime, there6, there7, norm6_of, norm7_of, to_new_refusal, to_old_refusal}
use Rattle.translate.proofs.RefusalLemmas.{front-none, last-false, last-true}
use Rattle.translate.proofs.ReadLemmas.{read6-is, read7-is}
use Rattle.translate.proofs.Sound6Lemmas.{sound6, unrefused6}
use Rattle.translate.proofs.Sound7Lemmas.{sound7}
use Rattle.translate.proofs.View6Laws.{view6-reads}
use Rattle.translate.proofs.View7Laws.{view7-reads}
use Rattle.translate.proofs.Legal6Lemmas.{view6-legal}
use Rattle.translate.proofs.Legal7Lemmas.{view7-legal}
use Rattle.translate.proofs.BackLaws.{unrefused-read6, unrefused-read7, fits-own6, fits-own7, lifetime-fits, late_is_refused}
use Rattle.translate.proofs.PlainLaws.{plain_is_normal}
use Rattle.translate.proofs.SpelledLemmas.{spelled-octets6, spelled-octets7, canon-sized, octets7-sized}
use Rattle.fragment_lines.specs.Said.{Said, says, refuses}
use Rattle.fragment_lines.specs.Lines.{hex_line, unless_refused}
use Rattle.bundle_runs.specs.declared.commands.command.Command.TheVariants as commands
use Rattle.bundle_runs.specs.declared.front.Bundle.{Bundle}
use Rattle.bundle_runs.specs.declared.front.Bundle.TheVariants as bundles
use Rattle.bundle_runs.specs.Answering.{settles_from, after_said, leaving}
use Rattle.bundle_runs.specs.Convert.{converted, converted6, converted7}
use Rattle.bundle_runs.specs.ThereAndBack.{WritesLine, RunConverts, ThereAndBack6, ThereAndBack7, LateStaysThere, RunsThereAndBack6, RunsThereAndBack7}
use Rattle.bundle_runs.proofs.FrontsLemmas.{settles-none}
use Rattle.bundle_runs.proofs.LawLemmas.{takes_bundle6, takes_bundle7}
use Rattle.bundle_runs.proofs.ViewOctetLemmas.{full6-octets, full7-octets, view6-octets, view7-octets}

-- ---- a line is written of what isn't refused

text_of : Said (Unit {0}) → List ℕ
text_of (says text done) = text
text_of (refuses word) = word

unless-says : (first : Option Refused) (text line : List ℕ) → unless_refused first (says text (tt {0})) ≡ says line tt → (first ≡ None) × (line ≡ text)
unfolding text_of
unless-says None text line is = (refl, ap text_of (sym is))
unless-says (Some cause) text line is = absurd (cc)

says6 : (b : Bundle6) (line : List ℕ) → WritesLine (bundles.Six b) line → (to_new_refusal b ≡ None) × (line ≡ hex_line (octets7 (there6 b)))
unfolding converted6
says6 b line is = unless-says (to_new_refusal b) (hex_line (octets7 (there6 b))) line is

says7 : (b : Bundle7) (line : List ℕ) → WritesLine (bundles.Seven b) line → (to_old_refusal b ≡ None) × (line ≡ hex_line (canon6 (there7 b)))
unfolding converted7
says7 b line is = unless-says (to_old_refusal b) (hex_line (canon6 (there7 b))) line is

-- ---- the octets of a view

canon-spells : (full : Full) → IsSound full → fits6 full ≡ true → length (canon6 (view6_of full)) < 2 ^ 64 → Spells6 (view6_of full) (canon6 (view6_of full))
canon-spells full sound room small =
    let sized = canon-sized (view6_of full) small in
    (written-is (view6_of full) (canon6 (view6_of full)) (view6-legal full sound room sized.0) sized.1 refl).spelled

octets7-spell : (full : Full) → IsSound full → fits7 full ≡ true → length (octets7 (view7_of full)) < 2 ^ 64 → Spells7 (view7_of full) (octets7 (view7_of full))
octets7-spell full sound room small =
    bundle-spells 64 (view7_of full) (view7-legal full sound room (octets7-sized (view7_of full) small))

-- ---- a record that goes both ways

record GoesBoth (full : Full) : Type 0 where
  sound : IsSound full
  room6 : fits6 full ≡ true
  room7 : fits7 full ≡ true
  lifetime : HasLifetime full

-- its view of version 6 becomes that of version 7
view6-writes : (full : Full) → GoesBoth full → WritesLine (bundles.Six (view6_of full)) (hex_line (octets7 (view7_of full)))
unfolding converted6
view6-writes full goes =
    let reads = view6-reads full goes.sound goes.lifetime in
    let same = read6-is (view6_of full) full reads in
    let room : not (fits7 (full6_of (view6_of full))) ≡ false = ap (λ (f : Full). not (fits7 f)) same ∙ ap not goes.room7 in
    let none : to_new_refusal (view6_of full) ≡ None = last-false (refusals6 (view6_of full)) causes.TooManyBlocks _ reads.unrefused room in
    ap (λ (r : Option Refused). unless_refused r (says (hex_line (octets7 (there6 (view6_of full)))) (tt {0}))) none
    ∙ ap (λ (f : Full). says (hex_line (octets7 (view7_of f))) (tt {0})) same

-- and the other way round
view7-writes : (full : Full) → GoesBoth full → WritesLine (bundles.Seven (view7_of full)) (hex_line (canon6 (view6_of full)))
unfolding converted7
view7-writes full goes =
    let reads = view7-reads full goes.sound.valid in
    let same = read7-is (view7_of full) full reads in
    let room : not (fits6 (full7_of (view7_of full))) ≡ false = ap (λ (f : Full). not (fits6 f)) same ∙ ap not goes.room6 in
    let none : to_old_refusal (view7_of full) ≡ None = last-false (refusals7 (view7_of full)) causes.TooManyBlocks _ reads.unrefused room in
    ap (λ (r : Option Refused). unless_refused r (says (hex_line (canon6 (there7 (view7_of full)))) (tt {0}))) none
    ∙ ap (λ (f : Full). says (hex_line (canon6 (view6_of f))) (tt {0})) same

-- there is room for the blocks of what isn't refused
room : (one : List (Refused × Bool)) (t : Bool) → first_that_holds (one ++ (causes.TooManyBlocks, not t) ∷ []) ≡ None → t ≡ true
room one true none = refl
room one false none = let some = last-true one causes.TooManyBlocks true (front-none one ((causes.TooManyBlocks, true) ∷ []) none) refl in absurd (cc)

-- a lifetime of version 6 that isn't late is a number of version 7
lives : (seconds sequence lifetime slack : ℕ) → 1000 * lifetime - sequence % 1000 < 2 ^ 64
    → 1000 * ((1000 * (seconds + lifetime) - slack + 999) / 1000 - (1000 * seconds + sequence % 1000) / 1000)
    - (1000 * (sequence / 1000) + (1000 * seconds + sequence % 1000) % 1000) % 1000 < 2 ^ 64
lives seconds sequence lifetime slack fits =
    let second : (1000 * seconds + sequence % 1000) / 1000 ≡ seconds = omega arith in
    let number : 1000 * (sequence / 1000) + (1000 * seconds + sequence % 1000) % 1000 ≡ sequence = omega arith in
    rw (second, number) (omega (arith, fits))

goes6 : (b : Bundle6) → IsTranslatable6 b → GoesBoth (full6_of b)
goes6 b is =
    let none = unrefused-read6 b is.unrefused in
    let late = or_parts _ _ (unrefused6 b none).late in
    record {
      sound = sound6 b is.legal is.octets none;
      room6 = fits-own6 b is.legal none;
      room7 = room (refusals6 b) (fits7 (full6_of b)) is.unrefused;
      lifetime = lives b.primary.seconds b.primary.sequence b.primary.lifetime (residue6_of b).slack (leb-false (2 ^ 64) _ late.1);
    }

goes7 : (b : Bundle7) → IsTranslatable7 b → GoesBoth (full7_of b)
goes7 b is =
    let none = unrefused-read7 b is.unrefused in
    record {
      sound = sound7 b is.legal is.octets none;
      room6 = room (refusals7 b) (fits6 (full7_of b)) is.unrefused;
      room7 = fits-own7 b is.legal none;
      lifetime = lifetime-fits b is.lifetime;
    }

-- ---- there and back

translatable6 : (octets : List ℕ) (b : Bundle6) → IsOctets octets → Spells6 b octets → to_new_refusal b ≡ None → IsTranslatable6 b
translatable6 octets b fits spells none = record {
  legal = spells.legal;
  octets = spelled-octets6 octets b fits spells.spelled;
  unrefused = none;
}

translatable7 : (octets : List ℕ) (b : Bundle7) → IsOctets octets → Spells7 b octets → to_old_refusal b ≡ None
    → b.primary.lifetime + slack_of (full7_of b).shared < 2 ^ 64 → IsTranslatable7 b
translatable7 octets b fits spells none low = record {
  legal = (bundle-spelled 64 octets b spells).0 fits;
  octets = spelled-octets7 octets b fits spells;
  unrefused = none;
  lifetime = low;
}

pub comes_back6 : ThereAndBack6
comes_back6 octets b line fits spells written =
    let said = says6 b line written in
    let is = translatable6 octets b fits spells said.0 in
    let goes = goes6 b is in
    let hold = full6-octets b is.octets in
    record {
      hex = said.1;
      there_octets = view7-octets (full6_of b) goes.sound hold;
      there = octets7-spell (full6_of b) goes.sound goes.room7;
      back = view7-writes (full6_of b) goes;
      normal_octets = view6-octets (full6_of b) goes.sound hold;
      normal = canon-spells (full6_of b) goes.sound goes.room6;
      again = view6-writes (full6_of b) goes ∙ ap (λ (t : List ℕ). says t (tt {0})) (sym said.1);
      plain = plain_is_normal.0 b is;
    }

pub comes_back7 : ThereAndBack7
comes_back7 octets b line fits spells written low =
    let said = says7 b line written in
    let is = translatable7 octets b fits spells said.0 low in
    let goes = goes7 b is in
    let hold = full7-octets b is.octets in
    record {
      hex = said.1;
      there_octets = view6-octets (full7_of b) goes.sound hold;
      there = canon-spells (full7_of b) goes.sound goes.room6;
      back = view6-writes (full7_of b) goes;
      normal_octets = view7-octets (full7_of b) goes.sound hold;
      normal = octets7-spell (full7_of b) goes.sound goes.room7;
      again = view7-writes (full7_of b) goes ∙ ap (λ (t : List ℕ). says t (tt {0})) (sym said.1);
      plain = λ plain. ap octets7 (plain_is_normal.1 b is plain) ∙ sym (bundle-spelled 64 octets b spells).1;
    }

pub late_stays_there : LateStaysThere
unfolding converted6
late_stays_there octets b line fits spells written large =
    let said = says7 b line written in
    let legal = (bundle-spelled 64 octets b spells).0 fits in
    let hold = spelled-octets7 octets b fits spells in
    let late = late_is_refused b legal hold said.0 large in
    let sound = sound7 b legal hold (unrefused-read7 b said.0) in
    record {
      hex = said.1;
      there_octets = view6-octets (full7_of b) sound (full7-octets b hold);
      there = canon-spells (full7_of b) sound (room (refusals7 b) (fits6 (full7_of b)) said.0);
      late = ap (λ (r : Option Refused). unless_refused r (says (hex_line (octets7 (there6 (there7 b)))) (tt {0}))) late;
    }

-- ---- runs

begins : {C A : Type 0} (f : Format C A) (octets : List ℕ) (a : A) → Spells f [] octets a → Begins f octets (length octets) a
begins f octets a spells = record {
  within = omega arith;
  spells = subst (λ (w : List ℕ). Spells f [] w a) (sym (take-length octets)) spells;
}

-- a run meets one bundle, writes its line, and ends
run-of : (octets others : List ℕ) (bundle : Bundle)
    → settles_from commands.Convert false [] 1 0 at_end octets
    ≡ after_said 1 (leaving [] (converted bundle)) None false
    (λ any now. settles_from commands.Convert any now (1 + 1) (0 + length octets) at_end (drop (length octets) octets))
    → WritesLine bundle (hex_line others) → length octets ≤ most_input → RunConverts octets others
run-of octets others bundle meets written low =
    let later : Bool → List Join → Settled =
    λ any now. settles_from commands.Convert any now (1 + 1) (0 + length octets) at_end (drop (length octets) octets) in
    within-low most_input (settles_from commands.Convert false [] 1 0) at_end octets low
    ∙ meets
    ∙ ap (λ (s : Said (Unit {0})). after_said 1 (leaving [] s) None false later) written
    ∙ ap (λ (rest : List ℕ). put_before (hex_line others) (settles_from commands.Convert false [] (1 + 1) (0 + length octets) at_end rest)) (drop-length octets)
    ∙ ap (put_before (hex_line others)) (settles-none commands.Convert false [] (1 + 1) (0 + length octets) at_end)
    ∙ ap (λ (t : List ℕ). record { text = t; ends = Some Done }) (append-nil (hex_line others))

run6 : (octets others : List ℕ) (b : Bundle6) → Spells6 b octets → WritesLine (bundles.Six b) (hex_line others) → length octets ≤ most_input
    → RunConverts octets others
run6 octets others b spells written low =
    run-of octets others (bundles.Six b)
    (takes_bundle6 commands.Convert false [] at_end 1 0 (length octets) octets b (begins (table6.bundle 64) octets b spells.spelled)) written low

run7 : (octets others : List ℕ) (b : Bundle7) → Spells7 b octets → WritesLine (bundles.Seven b) (hex_line others) → length octets ≤ most_input
    → RunConverts octets others
run7 octets others b spells written low =
    run-of octets others (bundles.Seven b)
    (takes_bundle7 commands.Convert false [] at_end 1 0 (length octets) octets b (begins (table7.bundle 64) octets b spells)) written low

counted : (octets : List ℕ) → length octets ≤ most_input → length octets < 2 ^ 64
counted octets low = let less : length octets ≤ 67108864 = low in omega (arith, less)

pub runs_back6 : RunsThereAndBack6
runs_back6 octets b line fits spells written low small =
    let comes = comes_back6 octets b line fits spells written in
    let there = octets7 (there6 b) in
    let back = canon6 (norm6_of b) in
    let same = ap (λ (t : List ℕ). says t (tt {0})) comes.hex in
    record {
      one = run6 octets there b spells (written ∙ same) low;
      there_octets = comes.there_octets;
      back_octets = comes.normal_octets;
      two = run7 there back (there6 b) (comes.there (counted there small)) comes.back small;
      three = λ less. run6 back there (norm6_of b) (comes.normal (counted back less)) (comes.again ∙ same) less;
    }

pub runs_back7 : RunsThereAndBack7
runs_back7 octets b line fits spells written lasts low small =
    let comes = comes_back7 octets b line fits spells written lasts in
    let there = canon6 (there7 b) in
    let back = octets7 (norm7_of b) in
    let same = ap (λ (t : List ℕ). says t (tt {0})) comes.hex in
    record {
      one = run7 octets there b spells (written ∙ same) low;
      there_octets = comes.there_octets;
      back_octets = comes.normal_octets;
      two = run6 there back (there7 b) (comes.there (counted there small)) comes.back small;
      three = λ less. run7 back there (norm7_of b) (comes.normal (counted back less)) (comes.again ∙ same) less;
    }
