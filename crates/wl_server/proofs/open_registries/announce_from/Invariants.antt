use Rattle.std.proofs.Common.{◌≡◌, [], drop, length, take}
use Rattle.wl_server.specs.Announcing.{owed_in}
use Rattle.wl_server.specs.Tellings.{Progress}
use Rattle.wl_server.specs.Slots.{SlotsRise, open_in, past_of}
use Rattle.wl_server.proofs.open_registries.announce_from.Given as goal

-- everything that is still owed is owed to the registries from this place on, and nothing to those
-- before
abbrev pub invariant-places : goal.invariant-places
invariant-places g l = record {
  progress : Progress l.fn.core (open_in l.fn.slots) (owed_in l.globals (open_in l.fn.slots)) l.count l.core
      (open_in l.slots) (owed_in l.globals (open_in (drop l.place l.slots)));
  settled : owed_in l.globals (open_in (take l.place l.slots)) ≡ [];
  place : l.settled ≡ l.place;
  rising : SlotsRise 0 l.slots;
  past : past_of l.slots ≡ past_of l.fn.slots;
  number : length (open_in l.slots) ≡ length (open_in l.fn.slots);
}
