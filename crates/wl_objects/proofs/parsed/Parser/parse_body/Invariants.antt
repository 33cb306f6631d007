use Rattle.std.proofs.Common.{◌≡◌, ◌≤◌, drop, length, take}
use Rattle.wl_objects.specs.Reading.{arguments_at, forgiving}
use Rattle.wl_objects.specs.Parsed.{views_of_parsed, views_prepended, views_outcome}
use Rattle.wl_objects.proofs.parsed.Parser.parse_body.Given as goal

-- the array holds what was parsed so far, and the remaining arguments decide the result
abbrev pub invariant-kinds : goal.invariant-kinds
invariant-kinds g l = record {
  made : views_prepended
      (views_of_parsed l.self.body.now (g.L.Lookup.reader l.self.lookup.now).birth (take l.place l.args-inside.items))
      (views_outcome (g.L.Lookup.reader l.self.lookup.now) l.descriptors
      (arguments_at (forgiving l.self.forgives (g.L.Lookup.reader l.self.lookup.now)) l.place (drop l.place l.kinds)
      (drop l.end l.self.body.now)))
      ≡ views_outcome (g.L.Lookup.reader l.self.lookup.now) 0 (arguments_at
      (forgiving l.self.forgives (g.L.Lookup.reader l.self.lookup.now)) 0 l.kinds l.self.body.now);
  within : l.end ≤ length l.self.body.now;
  room : length l.args-inside.items ≡ 20;
  few : l.descriptors ≤ l.place;
  held : l.args-inside.count ≤ 20;
}
