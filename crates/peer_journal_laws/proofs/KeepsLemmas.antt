-- What the acts of a run say that its journal keeps.

use Rattle.std.proofs.Common.{◌≡◌, ℕ, zero, suc, Bool, true, false, List, [], ◌∷◌, ◌++◌, length, map, Option, None, Some, if◌then◌else◌, refl, ap, ◌∙◌, sym, subst, unwrap_or}
use Rattle.std.specs.Option.{option_map}
use Rattle.edge_traits.specs.Faults.{fails_next, after_next}
use Rattle.gate_cases.specs.declared.face.Face.{Face}
use Rattle.gate_cases.specs.declared.face.Face.TheVariants as faces
use Rattle.gate_cases.specs.Faces.{other_of}
use Rattle.gate_log.specs.declared.event.Event.{Event}
use Rattle.journal_file.specs.Values.{KeptValue, RecordValue, a_begun, a_done, a_mark, a_clear, a_reserved}
use Rattle.journal_file.specs.Keeping as file
use Rattle.journal_file.specs.Keeping.{kept_after}
use Rattle.journal_file.specs.Anew.{but_greatest}
use Rattle.journal_file.proofs.AnewLemmas.{after-append}
use Rattle.outbox.specs.Outbox.{next_of}
use Rattle.gate_face.specs.Halves.{taking}
use Rattle.gate_records.specs.Records.{reserved_records}
use Rattle.peer_records.specs.Records.{after_step, step_records}
use Rattle.peer_half.specs.Journals.{Journalled, anew_in, is_large, kept_in, past_commit, records_in, starts_journal}
use Rattle.peer_half.specs.Standing.{Standing, doing_at, face_of, wall_of}
use Rattle.peer_half.specs.Starts.{starts_at}
use Rattle.peer_half.specs.Acts.{Act, Acted, after_acts, stands}
use Rattle.peer_half.specs.Parts as parts
use Rattle.peer_half.specs.Parts.{sends_within}
use Rattle.peer_half.specs.Half.{Came, half, hears}
use Rattle.peer_half.specs.Run.{halves, recovers}
use Rattle.peer_half.specs.Runs.{Run, acts_of, begins_at, stands_at}
use Rattle.peer_journal_laws.specs.Keeps.{KeepsBeforeItSends, SayAtDatagrams, SaySame, kept_by, kept_from, kept_with}
use Rattle.peer_journal_laws.proofs.JournalLemmas.{Keeps, journal-answers, journal-begins, journal-sent, journal-shows, kept-hears}

-- ---- whatever is said of the greatest id

alike-with : (k j : KeptValue) (r : RecordValue) → but_greatest k ≡ but_greatest j → but_greatest (file.kept_with k r) ≡ but_greatest (file.kept_with j r)
unfolding file.kept_with
alike-with k j (a_begun p) is = ap (λ (x : KeptValue). but_greatest (file.kept_with x (a_begun p))) is
alike-with k j (a_done id how) is = ap (λ (x : KeptValue). but_greatest (file.kept_with x (a_done id how))) is
alike-with k j (a_mark mark) is = ap (λ (x : KeptValue). but_greatest (file.kept_with x (a_mark mark))) is
alike-with k j (a_clear face session) is = ap (λ (x : KeptValue). but_greatest (file.kept_with x (a_clear face session))) is
alike-with k j (a_reserved faces.Old number) is = ap (λ (x : KeptValue). but_greatest (file.kept_with x (a_reserved faces.Old number))) is
alike-with k j (a_reserved faces.New number) is = ap (λ (x : KeptValue). but_greatest (file.kept_with x (a_reserved faces.New number))) is

alike-after : (k j : KeptValue) (rs : List RecordValue) → but_greatest k ≡ but_greatest j → but_greatest (kept_after k rs) ≡ but_greatest (kept_after j rs)
alike-after k j [] is = is
alike-after k j (r ∷ rs) is = alike-after (file.kept_with k r) (file.kept_with j r) rs (alike-with k j r is)

same-some : (a b : KeptValue) → Some a ≡ Some b → a ≡ b
same-some a b is = ap (λ (o : Option KeptValue). unwrap_or o a) is

say-committed : (told known : Option KeptValue) (rs : List RecordValue) → SaySame told known
    → SaySame (option_map (λ kept. kept_after kept rs) told) (option_map (λ kept. kept_after kept rs) known)
say-committed None None rs is = refl
say-committed None (Some j) rs is = absurd (cc)
say-committed (Some k) None rs is = absurd (cc)
say-committed (Some k) (Some j) rs is = ap (λ (x : KeptValue). Some x) (alike-after k j rs (same-some (but_greatest k) (but_greatest j) is))

-- ---- acts that say nothing of it

from-append : (before : Option KeptValue) (xs ys : List Act) → kept_from before (xs ++ ys) ≡ kept_from (kept_from before xs) ys
from-append before [] ys = refl
from-append before (x ∷ xs) ys = from-append (kept_with before x) xs ys

-- what was sent or lost, and more
record Passes (before known : Option KeptValue) (acts : List Act) : Type 0 where
  kept_is : kept_from before acts ≡ before
  at : (more : List Act) → SaySame before known → SayAtDatagrams known before more → SayAtDatagrams known before (acts ++ more)

pass-next : (before known : Option KeptValue) (face : Face) (fails : Bool) (next : Option (List ℕ)) (does : List ℕ → Acted) (s : Standing)
    → ((datagram : List ℕ) → Passes before known (does datagram).acts)
    → Passes before known (parts.where_some next (λ datagram. after_acts (parts.tried face fails datagram ∷ []) (does datagram)) (stands s)).acts
pass-next before known face fails None does s later = record { kept_is = refl; at = λ more is so. so }
pass-next before known face true (Some datagram) does s later =
    let rest = later datagram in record { kept_is = rest.kept_is; at = λ more is so. (is, rest.at more is so) }
pass-next before known face false (Some datagram) does s later =
    let rest = later datagram in record { kept_is = rest.kept_is; at = λ more is so. (is, rest.at more is so) }

pass-sends : (before known : Option KeptValue) (n : ℕ) (face : Face) (failing : List Bool) (s : Standing) → Passes before known (parts.sends_within n face failing s).acts
unfolding sends_within
pass-sends before known zero face failing s = record { kept_is = refl; at = λ more is so. so }
pass-sends before known (suc n) face failing s =
    pass-next before known face (fails_next failing) (next_of (face_of face s).outbox)
    (λ datagram. parts.sends_within n face (after_next failing) (parts.goes face (fails_next failing) datagram (doing_at face taking s))) s
    (λ datagram. pass-sends before known n face (after_next failing) (parts.goes face (fails_next failing) datagram (doing_at face taking s)))

lines-kept : (before : Option KeptValue) (wall : ℕ) (events : List Event) → kept_from before (map (parts.line_at wall) events) ≡ before
lines-kept before wall [] = refl
lines-kept before wall (event ∷ events) = lines-kept before wall events

lines-at : (known before : Option KeptValue) (wall : ℕ) (events : List Event) (more : List Act) → SayAtDatagrams known before more
    → SayAtDatagrams known before (map (parts.line_at wall) events ++ more)
lines-at known before wall [] more so = so
lines-at known before wall (event ∷ events) more so = lines-at known before wall events more so

now-kept : (before : Option KeptValue) (fails : Bool) (s : Standing) → kept_from before (parts.shows_now fails s) ≡ before
now-kept before true s = refl
now-kept before false s = refl

now-at : (known before : Option KeptValue) (fails : Bool) (s : Standing) → SayAtDatagrams known before (parts.shows_now fails s)
now-at known before true s = tt
now-at known before false s = tt

if-kept : (before : Option KeptValue) (due fails : Bool) (s : Standing) → kept_from before (parts.shows_if due fails s).acts ≡ before
if-kept before false fails s = refl
if-kept before true fails s = now-kept before fails s

if-at : (known before : Option KeptValue) (due fails : Bool) (s : Standing) → SayAtDatagrams known before (parts.shows_if due fails s).acts
if-at known before false fails s = tt
if-at known before true fails s = now-at known before fails s

shows-kept : (before : Option KeptValue) (board fails : Bool) (s : Standing) → kept_from before (parts.shows board fails s).acts ≡ before
shows-kept before true fails s = if-kept before (parts.is_due s.shown (wall_of s)) fails s
shows-kept before false fails s = refl

shows-at : (known before : Option KeptValue) (board fails : Bool) (s : Standing) → SayAtDatagrams known before (parts.shows board fails s).acts
shows-at known before true fails s = if-at known before (parts.is_due s.shown (wall_of s)) fails s
shows-at known before false fails s = tt

-- ---- a file that is made anew

anew-says : (before : Option KeptValue) (journal : Option Journalled) → SaySame before (kept_in journal)
    → SaySame (kept_from before (parts.installs_those (kept_in journal))) (kept_in (anew_in journal))
anew-says before None is = is
anew-says before (Some j) is = refl

installs-says : (before : Option KeptValue) (large : Bool) (s : Standing) → SaySame before (kept_in s.journal)
    → SaySame (kept_from before (if large then parts.makes_anew s else stands s).acts) (kept_in (if large then parts.makes_anew s else stands s).standing.journal)
installs-says before true s is = anew-says before s.journal is
installs-says before false s is = is

anew-at : (known before kept : Option KeptValue) (more : List Act) → ((then_kept : Option KeptValue) → SayAtDatagrams known then_kept more)
    → SayAtDatagrams known before (parts.installs_those kept ++ more)
anew-at known before None more so = so before
anew-at known before (Some kept) more so = so (Some (but_greatest kept))

installs-at : (known before : Option KeptValue) (large : Bool) (s : Standing) (more : List Act) → ((then_kept : Option KeptValue) → SayAtDatagrams known then_kept more)
    → SayAtDatagrams known before ((if large then parts.makes_anew s else stands s).acts ++ more)
installs-at known before true s more so = anew-at known before (kept_in s.journal) more so
installs-at known before false s more so = so before

-- ---- what is known since a half began

abbrev Since : Option KeptValue → Option Journalled → Type 0
Since before None = before ≡ None
Since None (Some j) = ⊥
Since (Some kept) (Some j) = kept_after kept (j.recorded).records ≡ ((j.recorded).keeping).kept

-- nothing is to be committed
abbrev Rested : Option Journalled → Type 0
Rested None = Unit {0}
Rested (Some j) = (j.recorded).records ≡ []

since-rested : (journal : Option Journalled) → Rested journal → Since (kept_in journal) journal
since-rested None is = refl
since-rested (Some j) is = ap (kept_after ((j.recorded).keeping).kept) is

since-recorded : (before : Option KeptValue) → Keeps (Since before)
unfolding after_step
since-recorded before h None is = is
since-recorded None h (Some j) is = absurd is
since-recorded (Some kept) h (Some j) is =
    let k = (j.recorded).keeping in
    after-append kept (j.recorded).records (step_records h k) ∙ ap (λ (x : KeptValue). kept_after x (step_records h k)) is

since-reserved : (before : Option KeptValue) (old_next new_next : ℕ) (journal : Option Journalled) → Since before journal → Since before (parts.reserved_in old_next new_next journal)
since-reserved before old_next new_next None is = is
since-reserved None old_next new_next (Some j) is = absurd is
since-reserved (Some kept) old_next new_next (Some j) is =
    let k = (j.recorded).keeping in
    let rs = reserved_records old_next new_next k.kept in
    after-append kept (j.recorded).records rs ∙ ap (λ (x : KeptValue). kept_after x rs) is

since-hears : (before : Option KeptValue) (face : Face) (came : Came) (s : Standing) → Since before s.journal → Since before (hears face came s).journal
since-hears before face came s so = kept-hears (Since before) (since-recorded before) face came s so

-- ---- the commit

commit-says : (told before : Option KeptValue) (journal : Option Journalled) → SaySame told before → Since before journal
    → SaySame (kept_from told (parts.commits_those (records_in journal))) (kept_in journal)
commit-says told before None same since = same ∙ ap (option_map but_greatest) since
commit-says told None (Some j) same since = absurd since
commit-says told (Some kept) (Some j) same since = by_records (j.recorded).records since where
  by_records : (rs : List RecordValue) → kept_after kept rs ≡ ((j.recorded).keeping).kept
      → SaySame (kept_from told (parts.commits_those rs)) (Some ((j.recorded).keeping).kept)
  by_records [] is = same ∙ ap (λ (x : KeptValue). Some (but_greatest x)) is
  by_records (first ∷ more) is = say-committed told (Some kept) (first ∷ more) same ∙ ap (λ (x : KeptValue). Some (but_greatest x)) is

commit-at : (known told : Option KeptValue) (rs : List RecordValue) (more : List Act) → SayAtDatagrams known (kept_from told (parts.commits_those rs)) more
    → SayAtDatagrams known told (parts.commits_those rs ++ more)
commit-at known told [] more so = so
commit-at known told (first ∷ rs) more so = so

kept-committed : (journal : Option Journalled) → kept_in (past_commit journal) ≡ kept_in journal
kept-committed None = refl
kept-committed (Some j) = refl

rested-committed : (journal : Option Journalled) → Rested (past_commit journal)
rested-committed None = tt
rested-committed (Some j) = refl

rested-anew : (journal : Option Journalled) → Rested journal → Rested (anew_in journal)
rested-anew None is = tt
rested-anew (Some j) is = is

rested-installed : (large : Bool) (journal : Option Journalled) → Rested journal → Rested (if large then anew_in journal else journal)
rested-installed true journal is = rested-anew journal is
rested-installed false journal is = is

-- ---- a half

-- what acts before a half say is what is known, and nothing is to be committed
record Said (told : Option KeptValue) (s : Standing) : Type 0 where
  same : SaySame told (kept_in s.journal)
  rested : Rested s.journal

-- once its records are committed
says-then : (told : Option KeptValue) (face : Face) (came : Came) (s : Standing) → Said told s
    → SaySame (kept_from told (parts.commits (hears face came s)).acts) (kept_in (parts.reserves (hears face came s)).journal)
says-then told face came s so =
    let h : Standing = hears face came s in
    commit-says told (kept_in s.journal) (parts.reserves h).journal so.same
    (since-reserved (kept_in s.journal) (parts.next_at faces.Old h) (parts.next_at faces.New h) h.journal
    (since-hears (kept_in s.journal) face came s (since-rested s.journal so.rested)))

keeps-half-said : (told : Option KeptValue) (board : Bool) (face : Face) (came : Came) (s : Standing) → Said told s
    → SayAtDatagrams (kept_in (parts.reserves (hears face came s)).journal) told (half board face came s).acts
unfolding half
keeps-half-said told board face came s so =
    let h : Standing = hears face came s in
    let c = parts.commits h in
    let known = kept_in (parts.reserves h).journal in
    let now = kept_from told c.acts in
    let is = says-then told face came s so in
    let old = parts.sends faces.Old came.old_failing c.standing in
    let new = parts.sends faces.New came.new_failing old.standing in
    let u = parts.ends_sending new.standing in
    let i = parts.installs u in
    let first = pass-sends now known (length ((face_of faces.Old c.standing).outbox).waiting) faces.Old came.old_failing c.standing in
    let second = pass-sends now known (length ((face_of faces.New old.standing).outbox).waiting) faces.New came.new_failing old.standing in
    let told_acts = (parts.writes u).acts ++ (i.acts ++ (parts.shows board came.show_fails i.standing).acts) in
    commit-at known told (records_in (parts.reserves h).journal) (old.acts ++ (new.acts ++ told_acts))
    (first.at (new.acts ++ told_acts) is (second.at told_acts is
    (lines-at known now (wall_of u) u.said (i.acts ++ (parts.shows board came.show_fails i.standing).acts)
    (installs-at known now (is_large u.journal) u (parts.shows board came.show_fails i.standing).acts (λ kept. shows-at known kept board came.show_fails i.standing)))))

said-half : (told : Option KeptValue) (board : Bool) (face : Face) (came : Came) (s : Standing) → Said told s
    → Said (kept_from told (half board face came s).acts) (half board face came s).standing
unfolding half
said-half told board face came s so = record {
  same = subst (λ (x : Option KeptValue). SaySame x (kept_in shown_then.journal)) (sym acts_say)
      (subst (λ (j : Option Journalled). SaySame (kept_from now i.acts) (kept_in j)) (sym journal_shown)
      (installs-says now (is_large u.journal) u
      (is ∙ ap (option_map but_greatest) (sym (ap kept_in (journal-sent came c.standing) ∙ kept-committed (parts.reserves h).journal)))));
  rested = subst Rested (sym (journal-answers board came h))
      (rested-installed (is_large (past_commit (parts.reserves h).journal)) (past_commit (parts.reserves h).journal) (rested-committed (parts.reserves h).journal));
} where
  h : Standing
  h = hears face came s

  c : Acted
  c = parts.commits h

  old : Acted
  old = parts.sends faces.Old came.old_failing c.standing

  new : Acted
  new = parts.sends faces.New came.new_failing old.standing

  u : Standing
  u = parts.ends_sending new.standing

  i : Acted
  i = parts.installs u

  shown_then : Standing
  shown_then = (parts.shows board came.show_fails i.standing).standing

  now : Option KeptValue
  now = kept_from told c.acts

  known : Option KeptValue
  known = kept_in (parts.reserves h).journal

  is : SaySame now known
  is = says-then told face came s so

  journal_shown : shown_then.journal ≡ (i.standing).journal
  journal_shown = journal-shows board came.show_fails i.standing

  acts_say : kept_from told (c.acts ++ (old.acts ++ (new.acts ++ ((parts.writes u).acts ++ (i.acts ++ (parts.shows board came.show_fails i.standing).acts))))) ≡ kept_from now i.acts
  acts_say =
      from-append told c.acts (old.acts ++ (new.acts ++ ((parts.writes u).acts ++ (i.acts ++ (parts.shows board came.show_fails i.standing).acts))))
      ∙ (from-append now old.acts (new.acts ++ ((parts.writes u).acts ++ (i.acts ++ (parts.shows board came.show_fails i.standing).acts)))
      ∙ (ap (λ x. kept_from x (new.acts ++ ((parts.writes u).acts ++ (i.acts ++ (parts.shows board came.show_fails i.standing).acts))))
      (pass-sends now known (length ((face_of faces.Old c.standing).outbox).waiting) faces.Old came.old_failing c.standing).kept_is
      ∙ (from-append now new.acts ((parts.writes u).acts ++ (i.acts ++ (parts.shows board came.show_fails i.standing).acts))
      ∙ (ap (λ x. kept_from x ((parts.writes u).acts ++ (i.acts ++ (parts.shows board came.show_fails i.standing).acts)))
      (pass-sends now known (length ((face_of faces.New old.standing).outbox).waiting) faces.New came.new_failing old.standing).kept_is
      ∙ (from-append now (parts.writes u).acts (i.acts ++ (parts.shows board came.show_fails i.standing).acts)
      ∙ (ap (λ x. kept_from x (i.acts ++ (parts.shows board came.show_fails i.standing).acts)) (lines-kept now (wall_of u) u.said)
      ∙ (from-append now i.acts (parts.shows board came.show_fails i.standing).acts
      ∙ shows-kept (kept_from now i.acts) board came.show_fails i.standing)))))))

-- ---- a run

said-halves : (told : Option KeptValue) (board : Bool) (face : Face) (comes : List Came) (s : Standing) → Said told s
    → Said (kept_from told (halves board face comes s).acts) (halves board face comes s).standing
unfolding halves
said-halves told board face [] s so = so
said-halves told board face (came ∷ more) s so =
    let now = half board face came s in
    let later = halves board (other_of face) more now.standing in
    let rest = said-halves (kept_from told now.acts) board (other_of face) more now.standing (said-half told board face came s so) in
    subst (λ (x : Option KeptValue). Said x later.standing) (sym (from-append told now.acts later.acts)) rest

start-says : (journal : Option Journalled) → SaySame (kept_from None (parts.installs_those (kept_in journal))) (kept_in (anew_in journal))
start-says None = refl
start-says (Some j) = refl

said-start : (r : Run) → Said (kept_from None (recovers r.file r.kept r.wall).acts) (begins_at r)
said-start r = record {
  same = start-says (starts_at r.file r.kept r.wall).journal;
  rested = subst Rested (sym (journal-begins r)) (rested-anew (starts_journal r.file r.wall r.kept) (by_kept r.kept));
} where
  by_kept : (kept : Option KeptValue) → Rested (starts_journal r.file r.wall kept)
  by_kept None = tt
  by_kept (Some kept) = refl

pub keeps-before-it-sends : KeepsBeforeItSends
keeps-before-it-sends r face came =
    keeps-half-said (kept_by (acts_of r)) r.board face came (stands_at r)
    (subst (λ (x : Option KeptValue). Said x (stands_at r)) (sym (from-append None (recovers r.file r.kept r.wall).acts (halves r.board faces.Old r.comes (begins_at r)).acts))
    (said-halves (kept_from None (recovers r.file r.kept r.wall).acts) r.board faces.Old r.comes (begins_at r) (said-start r)))
