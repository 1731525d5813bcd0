use Rattle.std.proofs.Common.{ℕ, List}
use Rattle.std.specs.List.{AllByRecursion}
use Rattle.gate_cases.specs.declared.face.Face.{Face}
use Rattle.path_laws.specs.declared.effects.UpAt.{UpAt}
use Rattle.path_laws.specs.Laws.{HandsOn, IsLinked, IsAsSent, IsSameUp, IsSameNumber, IsSameOrigin, NoTwo}
use Rattle.path_laws.specs.Log.{Begun, begun_in, ups_in}
use Rattle.path_laws.specs.Path.{PathSetup, PathEvent, starts_path}
use Rattle.path_laws.proofs.LawLemmas.{OneLink, one-link, as-sent, ups-once, numbers-once}
use Rattle.path_laws.proofs.OriginLemmas.{run-tagged, origins-once, all-received}
use Rattle.path_laws.proofs.SendLemmas.{all-different, all-count-start}
use Rattle.path_laws.proofs.laws.received_as_sent.Goals as goal

hands-on : (s : PathSetup) (start : ℕ) (events : List PathEvent) → IsLinked s
    → HandsOn s (begun_in s (starts_path s start) events) (ups_in s (starts_path s start) events)
hands-on s start events linked =
    let all : AllByRecursion (IsAsSent begun) ups = as-sent s begun ups links in
    let once : NoTwo IsSameUp ups = ups-once s begun ups links in
    let numbers : NoTwo IsSameNumber begun = numbers-once s begun ups links in
    let origins : NoTwo IsSameOrigin begun = origins-once s (starts_path s start) events once numbers in
    record {
      as_sent = all;
      once = once;
      numbers = numbers;
      received = all-received s begun ups all (run-tagged s (starts_path s start) events);
      origins = origins;
      different = all-different begun ups origins once;
      sends = λ end. all-count-start end s start events;
    }
  where
    begun : List Begun
    begun = begun_in s (starts_path s start) events

    ups : List UpAt
    ups = ups_in s (starts_path s start) events

    links : (face : Face) → OneLink face s (begun_in s (starts_path s start) events) (ups_in s (starts_path s start) events)
    links face = one-link face s start events (linked.each face)

pub returns : goal.returns
returns c = hands-on
