-- Laws of what a fetch hands over.
use Rattle.std.specs.Prelude.{List, ◌∷◌, ℕ, ◌/◌, ◌≤◌, length}
use Rattle.client.specs.Part.{PartStep, Did, ◌then◌}
use Rattle.client.specs.Laws.Steps.{Good, did_then}
use Rattle.client.specs.Laws.GoodSteps.{good_used}
use Rattle.client.specs.Answered.{used_enter}

pub good_used_enter : (us : List ℕ) → Good (used_enter us)
unfolding used_enter
good_used_enter us = good_used (length us ∷ us)

-- the copies in use have become read items; then what was fetched
pub entered_then : (us : List ℕ) (g : PartStep) (s t v : List ℕ) → 7223 ≤ length s / 8 → Did (used_enter us) s t → Did g t v → Did (used_enter us then g) s v
entered_then us g s t v l p q = did_then (used_enter us) g s t v l (good_used_enter us) p q
