-- A whole has room for its blocks in the version of its end: it has those of its first fragment.

use Rattle.std.proofs.Common.{◌≡◌, ℕ, zero, suc, ◌<◌, ◌==◌, ◌^◌, Bool, true, false, nat_lt, if◌then◌else◌, List, [], ◌∷◌, length, take, drop, Option, None, Some, is_some, Result, Ok, Err, refl, sym, subst}
use Rattle.std.specs.List.{All, slice_get}
use Rattle.std.proofs.lemmas.List.Elements.{All-take, All-drop, All-append, All-nil, All-cons, All-head, All-tail}
use Rattle.endpoint.specs.declared.extent.Fragment.{Fragment}
use Rattle.bundle_meaning.specs.declared.full.Full.{Full}
use Rattle.bundle_meaning.specs.declared.shared.Content.{Content}
use Rattle.bundle_meaning.specs.declared.shared.Content.TheVariants.{Bytes, Report}
use Rattle.bundle_meaning.specs.declared.shared.Shared.{Shared}
use Rattle.bundle_meaning.specs.Reports.{is_report}
use Rattle.bundle_meaning.specs.Valid.{IsFragment}
use Rattle.fragments.specs.declared.fault.JoinRefused.{JoinRefused}
use Rattle.fragments.specs.declared.join.Join.{Join}
use Rattle.fragments.specs.declared.joining.Joined.TheVariants as answers
use Rattle.fragments.specs.Again.{answer_at, answer, after_at, after}
use Rattle.fragments.specs.Cells.{whole_octets}
use Rattle.fragments.specs.Cutting.{octets_of}
use Rattle.fragments.specs.Joining.{index_of, open_join, others, accepted, started, with_payload, unfragmented, head_with, whole_with, whole_of, is_repeat, joined_with, answered, answer_to, kept_after}
use Rattle.gate_cases.specs.declared.face.Face.{Face}
use Rattle.gate_cases.specs.declared.face.Face.TheVariants as faces
use Rattle.gate_cases.specs.Faces.{fits_at}
use Rattle.translate.specs.Sound.{IsSound}
use Rattle.fragment_lines.proofs.HeadLemmas.{head-sound, payload-sound}
use Rattle.path_world.specs.Ties.{IsTaken, HasRoom, BeginsWithRoom}

-- ---- a fragment is no report

no-report : (fragment : Option Fragment) (content : Content) → is_some fragment ≡ true → IsFragment fragment content → is_report content ≡ false
no-report (Some part) (Bytes octets) some lies = refl
no-report (Some part) (Report report) some lies = absurd lies
no-report None content some lies = absurd (cc)

pub taken-bytes : (face : Face) (full : Full) → IsTaken face full → is_report full.shared.content ≡ false
taken-bytes face full taken = no-report full.shared.fragment full.shared.content taken.part taken.sound.valid.shared.fragment

-- ---- other octets need no more blocks

-- the record with another payload, where neither is a report
other-fits : (face : Face) (full : Full) (content : Content) → content ≡ full.shared.content → is_report content ≡ false → fits_at face full ≡ true
    → fits_at face (unfragmented full) ≡ true
other-fits faces.Old full (Bytes octets) is none fits = rw (sym is) at fits
other-fits faces.New full (Bytes octets) is none fits = rw (sym is) at fits
other-fits face full (Report report) is none fits = absurd (cc)

payload-fits : (face : Face) (full : Full) (octets : List ℕ) (content : Content) → content ≡ full.shared.content → is_report content ≡ false
    → fits_at face full ≡ true → fits_at face (with_payload full octets) ≡ true
payload-fits faces.Old full octets (Bytes other) is none fits = rw (sym is) at fits
payload-fits faces.New full octets (Bytes other) is none fits = rw (sym is) at fits
payload-fits face full octets (Report report) is none fits = absurd (cc)

-- ---- what is kept

room-others : (face : Face) (shared : Shared) (joins : List Join) → All (BeginsWithRoom face) joins → All (BeginsWithRoom face) (others shared joins)
room-others face shared joins room = by (nat_lt (index_of shared joins) (length joins)) refl
  where
    by : (t : Bool) → nat_lt (index_of shared joins) (length joins) ≡ t → All (BeginsWithRoom face) (others shared joins)
    by true is =
        rw is (All-append (BeginsWithRoom face) (take (index_of shared joins) joins) (drop (suc (index_of shared joins)) joins)
        (All-take (BeginsWithRoom face) (index_of shared joins) joins room) (All-drop (BeginsWithRoom face) (suc (index_of shared joins)) joins room))
    by false is = rw is room

room-get : (face : Face) (i : ℕ) (joins : List Join) (join : Join) → slice_get joins i ≡ Some join → All (BeginsWithRoom face) joins → BeginsWithRoom face join
room-get face zero (first ∷ joins) join is room =
    let same : first ≡ join = cc in subst (BeginsWithRoom face) same (All-head (BeginsWithRoom face) first joins room)
room-get face (suc i) (first ∷ joins) join is room = room-get face i joins join is (All-tail (BeginsWithRoom face) first joins room)
room-get face zero [] join is room = absurd (cc)
room-get face (suc i) [] join is room = absurd (cc)

room-head : (face : Face) (head : Option Full) (full : Full) (offset : ℕ) → HasRoom face head → IsTaken face full → HasRoom face (head_with head full offset)
room-head face (Some head) full offset has taken = has
room-head face None full offset has taken = by (offset == 0)
  where
    by : (t : Bool) → HasRoom face (if t then Some (unfragmented full) else None)
    by true = record {
      head = head-sound full taken.sound (taken-bytes face full taken);
      fits = other-fits face full full.shared.content refl (taken-bytes face full taken) taken.fits;
    }
    by false = tt

room-started : (face : Face) (kept : Option Join) (shared : Shared) (total : ℕ) → ((join : Join) → kept ≡ Some join → BeginsWithRoom face join)
    → BeginsWithRoom face (started kept shared total)
room-started face None shared total room = tt
room-started face (Some join) shared total room = room join refl

room-joined : (face : Face) (joins : List Join) (full : Full) (part : Fragment) → All (BeginsWithRoom face) joins → IsTaken face full
    → BeginsWithRoom face (joined_with joins full part)
room-joined face joins full part room taken =
    let first = room-started face (open_join full.shared joins) full.shared part.total
    (λ join is. room-get face (index_of full.shared joins) joins join is room) in
    room-head face (started (open_join full.shared joins) full.shared part.total).head full part.offset first taken

pub room-after : (face : Face) (joins : List Join) (full : Full) → All (BeginsWithRoom face) joins → IsTaken face full → All (BeginsWithRoom face) (after joins full)
room-after face joins full room taken = by (accepted joins full.shared)
  where
    kept : (whole : Option Full) (part : Fragment) → All (BeginsWithRoom face) (kept_after whole (others full.shared joins) (joined_with joins full part))
    kept (Some whole) part = room-others face full.shared joins room
    kept None part =
        All-append (BeginsWithRoom face) (others full.shared joins) (joined_with joins full part ∷ []) (room-others face full.shared joins room)
        (All-cons (BeginsWithRoom face) (joined_with joins full part) [] (room-joined face joins full part room taken) (All-nil (BeginsWithRoom face)))

    by : (r : Result Fragment JoinRefused) → All (BeginsWithRoom face) (after_at joins full r)
    by (Ok part) = kept (whole_of (joined_with joins full part)) part
    by (Err refused) = room

-- ---- what is answered

-- a whole can be written at the face
pub record IsWritable (face : Face) (whole : Full) : Type 0 where
  pub sound : IsSound whole
  pub fits : fits_at face whole ≡ true

whole-room : (face : Face) (octets : Option (List ℕ)) (head : Option Full) (whole : Full) → whole_with octets head ≡ Some whole → HasRoom face head
    → length (octets_of whole.shared.content) < 2 ^ 64 → IsWritable face whole
whole-room face (Some octets) (Some head) whole is has small =
    let same : with_payload head octets ≡ whole = cc in
    let few : length octets < 2 ^ 64 = subst (λ (f : Full). length (octets_of f.shared.content) < 2 ^ 64) (sym same) small in
    subst (IsWritable face) same (record {
      sound = payload-sound head octets has.head few;
      fits = payload-fits face head octets head.shared.content refl has.head.bytes has.fits;
    })
whole-room face (Some octets) None whole is has small = absurd (cc)
whole-room face None head whole is has small = absurd (cc)

pub whole-writable : (face : Face) (joins : List Join) (full : Full) (whole : Full) → All (BeginsWithRoom face) joins → IsTaken face full
    → answer joins full ≡ Ok (answers.Whole whole) → length (octets_of whole.shared.content) < 2 ^ 64 → IsWritable face whole
whole-writable face joins full whole room taken is small = by (accepted joins full.shared) is
  where
    answered-is : (found : Option Full) (repeats : Bool) → answered found repeats ≡ answers.Whole whole → found ≡ Some whole
    answered-is (Some other) repeats is = cc
    answered-is None true is = absurd (cc)
    answered-is None false is = absurd (cc)

    by : (r : Result Fragment JoinRefused) → answer_at joins full r ≡ Ok (answers.Whole whole) → IsWritable face whole
    by (Err refused) is = absurd (cc)
    by (Ok part) is =
        let join = joined_with joins full part in
        let same : answer_to joins full part ≡ answers.Whole whole = cc in
        let found = answered-is (whole_of join) (is_repeat (open_join full.shared joins) part.offset (octets_of full.shared.content)) same in
        whole-room face (whole_octets join.cells join.total) join.head whole found (room-joined face joins full part room taken) small
