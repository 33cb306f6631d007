use Rattle.std.proofs.Common.{rules}
use Rattle.wl_objects.proofs.lookup.ObjectsLookupLookup.new_id.Goals as goal

pub returns-then-not-has_room : goal.returns-then-not-has_room
returns-then-not-has_room c = search rules
