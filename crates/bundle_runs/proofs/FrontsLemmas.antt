-- Fronts one after another, and what they settle.
use Rattle.std.proofs.Common.{◌≡◌, ℕ, zero, suc, ◌+◌, ◌-◌, ◌<◌, ◌≤◌, eqb, Bool, true, false, List, [], ◌∷◌, ◌++◌, length, drop, if◌then◌else◌, None, Some, Result, Ok, Err, refl, ◌∙◌, ap, arith, length-drop}
use Rattle.edge_traits.specs.Settled.{Ends, put_before}
use Rattle.wire_fields.specs.Format.{Format}
use Rattle.wire_fields.specs.Refusal.{Stop, truncated, because}
use Rattle.wire_fields.specs.Reading.{read, IsSettled, IsOctets}
use Rattle.wire_fields.proofs.StayLemmas.{read-stays, read-begins, refusal-within}
use Rattle.wire_fields.proofs.ReadLemmas.{read-refused}
use Rattle.bundle6.specs.declared.bundle.Bundle6.{Bundle6}
use Rattle.bundle6.specs.Table as table6
use Rattle.bundle7.specs.declared.bundle.Bundle7.{Bundle7}
use Rattle.bundle7.specs.Table as table7
use Rattle.fragments.specs.declared.join.Join.{Join}
use Rattle.bundle_runs.specs.declared.commands.command.Command.{Command}
use Rattle.bundle_runs.specs.declared.front.Bundle.{Bundle}
use Rattle.bundle_runs.specs.declared.front.Bundle.TheVariants as bundles
use Rattle.bundle_runs.specs.declared.front.Cause.{Cause}
use Rattle.bundle_runs.specs.declared.front.Cause.TheVariants as causes
use Rattle.bundle_runs.specs.Front.{front_of, front_by, front_read, front6, front7, word_of, IsWithin, IsFirm, Front, whole, cut_short, refused}
use Rattle.bundle_runs.specs.Fronts.{after_front, first_fronts, fronts_of}
use Rattle.bundle_runs.specs.Answering.{by_bundles, step_of, leaves_of, after_said, after_last, unfinished, refused_by, settles_from}
use Rattle.bundle_runs.specs.WrittenLines.{refused_line, turned_down_line}
use Rattle.fragment_lines.specs.Said.{says, refuses}
use Rattle.bundle_runs.proofs.FrontLemmas.{six-within, seven-within, stopped-within}

-- ---- the list of fronts

after-same : (front : Front) (octets : List ℕ) (f g : List ℕ → List Front) → ((n : ℕ) → f (drop n octets) ≡ g (drop n octets))
    → after_front front octets f ≡ after_front front octets g
after-same (whole bundle size) octets f g same = same (size - 1)
after-same (cut_short place) octets f g same = refl
after-same (refused place cause) octets f g same = refl

-- more than enough makes no difference
enough : (m n : ℕ) (octets : List ℕ) → length octets ≤ m → length octets ≤ n → first_fronts m octets ≡ first_fronts n octets
unfolding first_fronts
enough m n [] low high = refl
enough zero n (octet ∷ octets) low high = absurd (omega (arith, low))
enough (suc m) zero (octet ∷ octets) low high = absurd (omega (arith, high))
enough (suc m) (suc n) (octet ∷ octets) low high =
    let rest : (k : ℕ) → first_fronts m (drop k octets) ≡ first_fronts n (drop k octets) =
    λ k. enough m n (drop k octets) (omega (arith, low, length-drop k octets)) (omega (arith, high, length-drop k octets)) in
    ap (λ t. front_of (octet ∷ octets) ∷ t)
    (after-same (front_of (octet ∷ octets)) octets (λ r. first_fronts m r) (λ r. first_fronts n r) rest)

pub fronts-more : (octet : ℕ) (octets : List ℕ)
    → fronts_of (octet ∷ octets) ≡ front_of (octet ∷ octets) ∷ after_front (front_of (octet ∷ octets)) octets (λ rest. fronts_of rest)
unfolding fronts_of first_fronts
fronts-more octet octets =
    let rest : (k : ℕ) → first_fronts (length octets) (drop k octets) ≡ first_fronts (length (drop k octets)) (drop k octets) =
    λ k. enough (length octets) (length (drop k octets)) (drop k octets) (omega (arith, length-drop k octets)) (omega arith) in
    ap (λ t. front_of (octet ∷ octets) ∷ t)
    (after-same (front_of (octet ∷ octets)) octets (λ r. first_fronts (length octets) r) (λ r. fronts_of r) rest)

-- ---- what they settle

module _ (command : Command) (any_refused : Bool) (joins : List Join) (n at : ℕ) (ends : Ends) where
  pub settles-none : settles_from command any_refused joins n at ends [] ≡ after_last ends any_refused
  unfolding settles_from fronts_of first_fronts by_bundles
  settles-none = refl

  by-front : (octet : ℕ) (octets : List ℕ) (front : Front) → front_of (octet ∷ octets) ≡ front
      → settles_from command any_refused joins n at ends (octet ∷ octets)
      ≡ by_bundles (step_of command) (leaves_of command) ends any_refused joins n at (front ∷ after_front front octets (λ rest. fronts_of rest))
  unfolding settles_from
  by-front octet octets front is =
      ap (λ fronts. by_bundles (step_of command) (leaves_of command) ends any_refused joins n at fronts) (fronts-more octet octets)
      ∙ ap (λ f. by_bundles (step_of command) (leaves_of command) ends any_refused joins n at (f ∷ after_front f octets (λ rest. fronts_of rest))) is

  pub settles-whole : (octets : List ℕ) (bundle : Bundle) (k : ℕ) → front_of octets ≡ whole bundle k → 0 < k → k ≤ length octets
      → settles_from command any_refused joins n at ends octets
      ≡ after_said n (step_of command joins bundle k) (leaves_of command joins bundle) any_refused (λ any now. settles_from command any now (n + 1) (at + k) ends (drop k octets))
  unfolding settles_from by_bundles
  settles-whole octets bundle zero is some inside = absurd (omega (arith, some))
  settles-whole [] bundle (suc k) is some inside = absurd (omega (arith, inside))
  settles-whole (octet ∷ octets) bundle (suc k) is some inside =
      let less : suc k - 1 ≡ k = omega arith in
      by-front octet octets (whole bundle (suc k)) is
      ∙ ap (λ j. after_said n (step_of command joins bundle (suc k)) (leaves_of command joins bundle) any_refused (λ any now. settles_from command any now (n + 1) (at + suc k) ends (drop j octets))) less

  pub settles-says : (octets : List ℕ) (bundle : Bundle) (k : ℕ) (text : List ℕ) (now : List Join) → front_of octets ≡ whole bundle k → 0 < k → k ≤ length octets
      → step_of command joins bundle k ≡ says text now
      → settles_from command any_refused joins n at ends octets ≡ put_before text (settles_from command any_refused now (n + 1) (at + k) ends (drop k octets))
  settles-says octets bundle k text now is some inside said =
      settles-whole octets bundle k is some inside
      ∙ ap (λ s. after_said n s (leaves_of command joins bundle) any_refused (λ any now. settles_from command any now (n + 1) (at + k) ends (drop k octets))) said

  pub settles-turned-down : (octets : List ℕ) (bundle : Bundle) (k : ℕ) (word : List ℕ) → front_of octets ≡ whole bundle k → 0 < k → k ≤ length octets
      → step_of command joins bundle k ≡ refuses word → leaves_of command joins bundle ≡ None
      → settles_from command any_refused joins n at ends octets ≡ refused_by (turned_down_line n word)
  settles-turned-down octets bundle k word is some inside said left =
      settles-whole octets bundle k is some inside
      ∙ ap (λ s. after_said n s (leaves_of command joins bundle) any_refused (λ any now. settles_from command any now (n + 1) (at + k) ends (drop k octets))) said
      ∙ ap (λ l. after_said n (refuses word) l any_refused (λ any now. settles_from command any now (n + 1) (at + k) ends (drop k octets))) left

  pub settles-kept : (octets : List ℕ) (bundle : Bundle) (k : ℕ) (word : List ℕ) (now : List Join) → front_of octets ≡ whole bundle k → 0 < k → k ≤ length octets
      → step_of command joins bundle k ≡ refuses word → leaves_of command joins bundle ≡ Some now
      → settles_from command any_refused joins n at ends octets
      ≡ put_before (turned_down_line n word) (settles_from command true now (n + 1) (at + k) ends (drop k octets))
  settles-kept octets bundle k word now is some inside said left =
      settles-whole octets bundle k is some inside
      ∙ ap (λ s. after_said n s (leaves_of command joins bundle) any_refused (λ any now. settles_from command any now (n + 1) (at + k) ends (drop k octets))) said
      ∙ ap (λ l. after_said n (refuses word) l any_refused (λ any now. settles_from command any now (n + 1) (at + k) ends (drop k octets))) left

  pub settles-refused : (octets : List ℕ) (place : ℕ) (cause : Cause) → 0 < length octets → front_of octets ≡ refused place cause
      → settles_from command any_refused joins n at ends octets ≡ refused_by (refused_line n (at + place) (word_of cause))
  unfolding by_bundles
  settles-refused [] place cause some is = absurd (omega (arith, some))
  settles-refused (octet ∷ octets) place cause some is = by-front octet octets (refused place cause) is

  pub settles-cut : (octets : List ℕ) (place : ℕ) → 0 < length octets → front_of octets ≡ cut_short place
      → settles_from command any_refused joins n at ends octets ≡ unfinished ends n (at + place)
  unfolding by_bundles
  settles-cut [] place some is = absurd (omega (arith, some))
  settles-cut (octet ∷ octets) place some is = by-front octet octets (cut_short place) is

-- ---- a bundle or a refusal at the front stays, whatever octets follow

module _ {A C : Type 0} (f : Format C A) (bundle : A → Bundle) (cause : C → Cause) (text more : List ℕ) (fits : IsOctets text) where
  firm-settled : (r : Result (A × ℕ) (ℕ × Stop C)) → IsFirm (front_read bundle cause r) → IsSettled r
  firm-settled (Ok x) firm = tt
  firm-settled (Err (at, truncated)) firm = absurd firm
  firm-settled (Err (at, because c)) firm = tt

  pub read-firm : IsFirm (front_read bundle cause (read f text 0))
      → front_read bundle cause (read f (text ++ more) 0) ≡ front_read bundle cause (read f text 0)
  read-firm firm =
      ap (front_read bundle cause) (read-stays f text more 0 fits (omega arith) (firm-settled (read f text 0) firm))

by-stays : (first : ℕ) (text more : List ℕ) → IsOctets text → IsFirm (front_by first text) → front_by first (text ++ more) ≡ front_by first text
by-stays first text more fits firm = by_six (eqb first 0x06) refl
  where
    by_seven : (t : Bool) → eqb first 0x9F ≡ t → IsFirm (if t then front7 text else refused 0 causes.Version)
        → (if t then front7 (text ++ more) else refused 0 causes.Version) ≡ (if t then front7 text else refused 0 causes.Version)
    by_seven true is firm = read-firm (table7.bundle 64) bundles.Seven causes.Seven text more fits firm
    by_seven false is firm = refl

    by_six : (t : Bool) → eqb first 0x06 ≡ t → front_by first (text ++ more) ≡ front_by first text
    by_six true is =
        let here : IsFirm (front6 text) = rw is at firm in
        rw is (read-firm (table6.bundle 64) bundles.Six causes.Six text more fits here)
    by_six false is = rw is (by_seven (eqb first 0x9F) refl (rw is at firm))

pub front-stays : (text more : List ℕ) → IsOctets text → 0 < length text → IsFirm (front_of text) → front_of (text ++ more) ≡ front_of text
unfolding front_of
front-stays [] more fits some firm = absurd (omega (arith, some))
front-stays (octet ∷ text) more fits some firm = by-stays octet (octet ∷ text) more fits firm

-- ---- what stands at a front lies within the octets

module _ (text : List ℕ) (fits : IsOctets text) where
  pub within6 : (r : Result (Bundle6 × ℕ) (ℕ × Stop _)) → read (table6.bundle 64) text 0 ≡ r → IsWithin (length text) (front_read bundles.Six causes.Six r)
  within6 (Ok x) is = six-within text x.0 x.1 (read-begins (table6.bundle 64) text x.1 x.0 fits is)
  within6 (Err (at, s)) is =
      stopped-within causes.Six at (length text) s
      (refusal-within (table6.bundle 64) text at s (read-refused (table6.bundle 64) text 0 at s fits (omega arith) is))

  pub within7 : (r : Result (Bundle7 × ℕ) (ℕ × Stop _)) → read (table7.bundle 64) text 0 ≡ r → IsWithin (length text) (front_read bundles.Seven causes.Seven r)
  within7 (Ok x) is = seven-within text x.0 x.1 (read-begins (table7.bundle 64) text x.1 x.0 fits is)
  within7 (Err (at, s)) is =
      stopped-within causes.Seven at (length text) s
      (refusal-within (table7.bundle 64) text at s (read-refused (table7.bundle 64) text 0 at s fits (omega arith) is))

  within-by : (six seven : Bool)
      → IsWithin (length text) (if six then front6 text else if seven then front7 text else refused 0 causes.Version)
  within-by true seven = within6 (read (table6.bundle 64) text 0) refl
  within-by false true = within7 (read (table7.bundle 64) text 0) refl
  within-by false false = omega arith

  pub front-within : IsWithin (length text) (front_of text)
  unfolding front_of
  front-within = within-by _ _
