-- Texts, and counts of what was sent, one more at a time.

use Rattle.std.proofs.Common.{◌≡◌, ℕ, ◌+◌, Bool, List, [], ◌∷◌, ◌++◌, length, refl, sym, ◌∙◌, ap, arith}
use Rattle.std.proofs.lemmas.List.{append-nil, append_assoc}
use Rattle.ltp_world.specs.declared.effects.EndEffects.{EndEffects}
use Rattle.ltp_world.specs.declared.ends.End.{End}
use Rattle.window_world.specs.declared.effects.At.{At}
use Rattle.link_run.specs.Shows.{capped}
use Rattle.link_run.specs.WrittenLines.{count_sent, count_timed, if_moved, octets_of, octets_sent, octets_timed, out_lines, sent_line, sent_lines, timed_text, told_text}

-- ---- counts

pub count-push : (tolds : List EndEffects) (told : EndEffects) → count_sent (tolds ++ told ∷ []) ≡ count_sent tolds + length told.effects.out
count-push [] told = omega arith
count-push (t ∷ ts) told = let rest = count-push ts told in omega (arith, rest)

pub timed-count-push : (ats : List At) (at : At) → count_timed (ats ++ at ∷ []) ≡ count_timed ats + count_sent at.effects
timed-count-push [] at = omega arith
timed-count-push (a ∷ as') at = let rest = timed-count-push as' at in omega (arith, rest)

pub octets-push : (datagrams : List (List ℕ)) (datagram : List ℕ) → octets_of (datagrams ++ datagram ∷ []) ≡ octets_of datagrams + length datagram
octets-push [] datagram = omega arith
octets-push (d ∷ ds) datagram = let rest = octets-push ds datagram in omega (arith, rest)

pub sent-octets-push : (tolds : List EndEffects) (told : EndEffects) → octets_sent (tolds ++ told ∷ []) ≡ octets_sent tolds + octets_of told.effects.out
sent-octets-push [] told = omega arith
sent-octets-push (t ∷ ts) told = let rest = sent-octets-push ts told in omega (arith, rest)

pub timed-octets-push : (ats : List At) (at : At) → octets_timed (ats ++ at ∷ []) ≡ octets_timed ats + octets_sent at.effects
timed-octets-push [] at = omega arith
timed-octets-push (a ∷ as') at = let rest = timed-octets-push as' at in omega (arith, rest)

-- a count that is capped at each step is capped in all
pub capped-more : (a b c : ℕ) → capped (capped (a + b) + c) ≡ capped (a + (b + c))
capped-more a b c = omega arith

-- ---- texts

pub out-push : (k : ℕ) (end : End) (datagrams : List (List ℕ)) (datagram : List ℕ)
    → out_lines k end (datagrams ++ datagram ∷ []) ≡ out_lines k end datagrams ++ sent_line (k + length datagrams) end datagram
unfolding out_lines
out-push k end [] datagram = append-nil (sent_line k end datagram) ∙ ap (λ n. sent_line n end datagram) (omega arith)
out-push k end (d ∷ ds) datagram =
    ap (λ t. sent_line k end d ++ t) (out-push (k + 1) end ds datagram ∙ ap (λ n. out_lines (k + 1) end ds ++ sent_line n end datagram) (omega arith))
    ∙ sym (append_assoc (sent_line k end d) (out_lines (k + 1) end ds) (sent_line (k + length (d ∷ ds)) end datagram))

pub sent-push : (k : ℕ) (tolds : List EndEffects) (told : EndEffects)
    → sent_lines k (tolds ++ told ∷ []) ≡ sent_lines k tolds ++ out_lines (k + count_sent tolds) told.end told.effects.out
unfolding sent_lines
sent-push k [] told = append-nil (out_lines k told.end told.effects.out) ∙ ap (λ n. out_lines n told.end told.effects.out) (omega arith)
sent-push k (t ∷ ts) told =
    ap (λ x. out_lines k t.end t.effects.out ++ x)
    (sent-push (k + length t.effects.out) ts told ∙ ap (λ n. sent_lines (k + length t.effects.out) ts ++ out_lines n told.end told.effects.out) (omega arith))
    ∙ sym (append_assoc (out_lines k t.end t.effects.out) (sent_lines (k + length t.effects.out) ts) (out_lines (k + count_sent (t ∷ ts)) told.end told.effects.out))

-- the moment that the clock shows after events
abbrev pub last_moment : ℕ → List At → ℕ
last_moment moment [] = moment
last_moment moment (at ∷ ats) = last_moment at.now ats

pub last-push : (moment : ℕ) (ats : List At) (at : At) → last_moment moment (ats ++ at ∷ []) ≡ at.now
last-push moment [] at = refl
last-push moment (a ∷ as') at = last-push a.now as' at

pub timed-push : (windows : Bool) (moment k : ℕ) (ats : List At) (at : At)
    → timed_text windows moment k (ats ++ at ∷ [])
    ≡ timed_text windows moment k ats ++ (if_moved windows (last_moment moment ats) at.now ++ told_text (k + count_timed ats) at.effects)
unfolding timed_text
timed-push windows moment k [] at =
    append-nil (if_moved windows moment at.now ++ told_text k at.effects) ∙ ap (λ n. if_moved windows moment at.now ++ told_text n at.effects) (omega arith)
timed-push windows moment k (a ∷ as') at =
    ap (λ x. (if_moved windows moment a.now ++ told_text k a.effects) ++ x)
    (timed-push windows a.now (k + count_sent a.effects) as' at
    ∙ ap (λ n. timed_text windows a.now (k + count_sent a.effects) as' ++ (if_moved windows (last_moment a.now as') at.now ++ told_text n at.effects)) (omega arith))
    ∙ sym (append_assoc (if_moved windows moment a.now ++ told_text k a.effects) (timed_text windows a.now (k + count_sent a.effects) as')
    (if_moved windows (last_moment a.now as') at.now ++ told_text (k + count_timed (a ∷ as')) at.effects))
