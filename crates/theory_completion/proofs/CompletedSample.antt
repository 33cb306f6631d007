-- The tables of the sample are completed by the newer ones.
use Rattle.std.proofs.Common.{◌≡◌, ℕ, zero, suc, ◌<◌, [], ◌∷◌, slice_get, Some, refl, arith}
use Rattle.wl_sigs.specs.Side.{Side}
use Rattle.wl_sigs.specs.Side.TheVariants.{Request, Event}
use Rattle.wl_sigs.specs.Tables.{MessageSignature, messages_of}
use Rattle.theory_completion.specs.Completion.{AddsMessages, IsNewer, Completes, more, newer}
use Rattle.theory_completion.specs.Samples.{leave_request, new_tables, new_window, old_tables, old_window}

leave_is_newer : (place : ℕ) (m : MessageSignature) → slice_get (leave_request ∷ []) place ≡ Some m → 1 < m.since
leave_is_newer zero m at = let same : leave_request ≡ m = cc in rw (← same) (omega arith)
leave_is_newer (suc place) m at = absurd (cc (at))

window_messages : (side : Side) → AddsMessages 1 (messages_of side old_window) (messages_of side new_window)
window_messages Request = record { added = leave_request ∷ []; are = refl; newer = leave_is_newer }
window_messages Event = record { added = []; are = refl; newer = λ place m at. absurd (cc (at)) }

window_is_newer : IsNewer old_window new_window
window_is_newer = record { name = refl; version = omega arith; messages = window_messages }

pub sample_completes : Completes old_tables new_tables
sample_completes = newer window_is_newer more
