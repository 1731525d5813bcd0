use Rattle.std.proofs.lemmas.Result.{on_ok_weaker}
use Rattle.bundle_json.proofs.shown.Rest.send.Goals as goal

pub returns : goal.returns
returns g c =
    let m1 = c.in_ok-send.ensures in
    let m2 = c.in_ok-send-2.ensures in
    let m3 = c.in_ok-send-3.ensures in
    let m4 = c.in_ok-send-4.ensures in
    let m5 = c.in_ok-send-5.ensures in
    let m6 = c.in_ok-send-6.ensures in
    let m7 = c.in_ok-send-7.ensures in
    on_ok_weaker c.end_map.result (λ ended. (m1.0, _, m1.1, m1.2, (m2.0, _, m2.1, m2.2, (m3.0, _, m3.1, m3.2, (m4.0, _, m4.1, m4.2, (m5.0, _, m5.1, m5.2, (m6.0, _, m6.1, m6.2, (m7.0, _, m7.1, m7.2, ended)))))))) c.end_map.ensures
