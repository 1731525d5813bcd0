use Rattle.std.proofs.lemmas.Result.{on_ok_weaker}
use Rattle.bundle_json.proofs.shown.Head7Serialize.serialize.Goals as goal

pub returns : goal.returns
returns g c =
    let m1 = c.in_ok-send.ensures in
    let m2 = c.in_ok-send-2.ensures in
    let m3 = c.in_ok-send-3.ensures in
    on_ok_weaker c.send-4.result (λ rest. (_, c.in_ok-begin_map.ensures, (m1.0, _, m1.1, m1.2, (m2.0, _, m2.1, m2.2, (m3.0, _, m3.1, m3.2, rest))))) c.send-4.ensures
