-- An interface of version 1, the same of version 2, and what is doubtful of their objects.
use Rattle.std.specs.Prelude.{ℕ, List, [], ◌∷◌, codes}
use Rattle.wl_sigs.specs.Fixed.{message, int}
use Rattle.wl_sigs.specs.Destroys.TheVariants.{Nothing, Target}
use Rattle.wl_sigs.specs.Tables.{MessageSignature, Interface}
use Rattle.wl_object_map.specs.declared.object.Entry.{Entry}
use Rattle.wl_object_map.specs.declared.object.State.TheVariants.{Live}
use Rattle.wl_objects.specs.Messages.{NewObject}

-- the event that both versions have, and the request that only the newer one has
abbrev pub shown_event : MessageSignature
shown_event = message (codes "shown") 1 (int ∷ []) Nothing

abbrev pub leave_request : MessageSignature
leave_request = message (codes "leave") 2 [] Target

abbrev pub old_window : Interface
old_window = record {
  name = codes "window";
  version = 1;
  requests = [];
  events = shown_event ∷ [];
}

abbrev pub new_window : Interface
new_window = record {
  name = codes "window";
  version = 2;
  requests = leave_request ∷ [];
  events = shown_event ∷ [];
}

abbrev pub old_tables : List Interface
old_tables = old_window ∷ []

abbrev pub new_tables : List Interface
new_tables = new_window ∷ []

-- a live window of this version
abbrev pub window_of : ℕ → Entry
window_of version = record { birth = 1; iface = record { 0 = 0 }; version = version; state = Live }

-- a window that is made with this id and version
abbrev pub window_made : ℕ → ℕ → NewObject
window_made id version = record { id = id; iface = record { 0 = 0 }; version = version }
