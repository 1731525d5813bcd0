use Rattle.peer_serve_laws.proofs.StepLemmas.{steps-send-alike}
use Rattle.peer_serve_laws.proofs.laws.steps_send_alike.Goals as goal

pub returns : goal.returns
returns c = steps-send-alike
