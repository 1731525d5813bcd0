-- Lists of events, one after the other.
use Rattle.std.proofs.Common.{◌≡◌, ℕ, ◌+◌, ◌*◌, ◌%◌, ◌^◌, Bool, true, false, ◌||◌, List, [], ◌∷◌, ◌++◌, refl, sym, ap, ◌∙◌, append_assoc}
use Rattle.path_laws.specs.Path.{PathSetup, Path, PathEvent, path_step, path_run}
use Rattle.path_laws.specs.Log.{ups_in}
use Rattle.world_run.specs.World.{happens, event_text, events_text}
use Rattle.make_run.specs.Making.{is_over, is_past, sum_after}

pub sum-append : (sum : ℕ) (xs ys : List ℕ) → sum_after sum (xs ++ ys) ≡ sum_after (sum_after sum xs) ys
unfolding sum_after
sum-append sum [] ys = refl
sum-append sum (x ∷ xs) ys = sum-append ((31 * sum + x) % 2 ^ 32) xs ys

pub text-append : (s : PathSetup) (w : Path) (xs ys : List PathEvent)
    → events_text s w (xs ++ ys) ≡ events_text s w xs ++ events_text s (path_run s w xs) ys
unfolding events_text path_run
text-append s w [] ys = refl
text-append s w (x ∷ xs) ys =
    ap (λ t. event_text s w x ++ t) (text-append s (path_step s w x).path xs ys)
    ∙ sym (append_assoc (event_text s w x) (events_text s (path_step s w x).path xs)
    (events_text s (path_run s (path_step s w x).path xs) ys))

pub ups-append : (s : PathSetup) (w : Path) (xs ys : List PathEvent)
    → ups_in s w (xs ++ ys) ≡ ups_in s w xs ++ ups_in s (path_run s w xs) ys
unfolding ups_in path_run
ups-append s w [] ys = refl
ups-append s w (x ∷ xs) ys =
    ap (λ t. (path_step s w x).effects.ups ++ t) (ups-append s (path_step s w x).path xs ys)
    ∙ sym (append_assoc (path_step s w x).effects.ups (ups_in s (path_step s w x).path xs)
    (ups_in s (path_run s (path_step s w x).path xs) ys))

or-assoc : (a b c : Bool) → (a || (b || c)) ≡ ((a || b) || c)
or-assoc true b c = refl
or-assoc false b c = refl

pub past-append : (s : PathSetup) (w : Path) (xs ys : List PathEvent)
    → is_past s w (xs ++ ys) ≡ (is_past s w xs || is_past s (path_run s w xs) ys)
unfolding is_past path_run
past-append s w [] ys = refl
past-append s w (x ∷ xs) ys =
    ap (λ t. is_over (happens s w x) || t) (past-append s (path_step s w x).path xs ys)
    ∙ or-assoc (is_over (happens s w x)) (is_past s (path_step s w x).path xs)
    (is_past s (path_run s (path_step s w x).path xs) ys)
