-- Four short histories of the world: a callback that is done, an event that names an object which
-- its reader has destroyed, a registry destroyed through wl_fixes, and objects that the server
-- makes.
use Rattle.std.specs.Prelude.{◌≡◌, ℕ, pos, codes, List, [], ◌∷◌, Some, None}
use Rattle.wl_wire.specs.Argument.{Uint, Fixed, Str, Obj, New}
use Rattle.wl_sigs.specs.Tables.{Interface}
use Rattle.wl_sigs.specs.Fixed.{callback, registry, fixes}
use Rattle.wl_objects.specs.declared.argument.Named.TheVariants as named_as
use Rattle.wl_objects.specs.Reading.{Reported}
use Rattle.wl_client.specs.Reports as events
use Rattle.theory_connection.specs.Meant.{client_birth, server_birth, Born, Message}
use Rattle.theory_connection.specs.Meant.{Event, Delete}
use Rattle.theory_connection.specs.World.{World, Open, Ending, opening_world, display_born}
use Rattle.theory_connection.specs.World.{request_written, request_read, event_written, event_read}
use Rattle.theory_connection.specs.World.{delete_read, Steps, WriteRequest, ReadRequest, WriteEvent}
use Rattle.theory_connection.specs.World.{ReadEvent, put, nothing, nothing_told, Posted, Failing}
use Rattle.theory_connection.specs.World.{Over}
use Rattle.theory_connection.specs.World.{in_stage, Post, ReadError}
use Rattle.theory_connection.specs.Answers.{ReportsComing, ReportsError}

-- the client asks wl_display for a callback, birth 1, and the server is done with it
abbrev pub sample_callback : Born
sample_callback = record { birth = client_birth 1; iface = callback; version = 1 }

abbrev pub sync : Message Born
sync = record { target = display_born; opcode = 0; args = New sample_callback ∷ []; ends = None }

abbrev pub done : Message Born
done = record {
  target = sample_callback;
  opcode = 0;
  args = Uint 7 ∷ [];
  ends = Some sample_callback;
}

abbrev pub sync_written : World
sync_written = request_written opening_world sync

abbrev pub heard : World
heard = request_read sync_written sync []

abbrev pub answered : World
answered = event_written heard done

abbrev pub seen_done : List Interface → World
seen_done tables = event_read tables answered done (Delete sample_callback ∷ [])

abbrev pub delete_read_back : List Interface → World
delete_read_back tables = delete_read (seen_done tables) sample_callback []

-- each is a step; in the end the callback is nowhere, nothing is in flight, and the next object is
-- birth 2
pub record CallbackLives (tables : List Interface) : Type 0 where
  pub asks : Steps tables opening_world (WriteRequest sync) sync_written
  pub reads : Steps tables sync_written (ReadRequest sync) heard
  pub tells : Steps tables heard (WriteEvent done) answered
  pub sees : Steps tables answered (ReadEvent (Event done)) (seen_done tables)
  pub forgets : Steps tables (seen_done tables) (ReadEvent (Delete sample_callback))
      (delete_read_back tables)
  pub ends_here : (seen_done tables).client sample_callback.birth ≡ Some (Ending sample_callback)
  pub not_at_client : (delete_read_back tables).client sample_callback.birth ≡ None
  pub not_at_server : (delete_read_back tables).server sample_callback.birth ≡ None
  pub no_requests : (delete_read_back tables).requests ≡ []
  pub no_events : (delete_read_back tables).events ≡ []
  pub next : (delete_read_back tables).births ≡ 2

-- A pointer, birth 5, and a surface, birth 3, are open at both ends; the numbers of their
-- interfaces do not matter here.
abbrev pub sample_surface : Born
sample_surface = record { birth = client_birth 3; iface = record { 0 = 7 }; version = 6 }

abbrev pub sample_pointer : Born
sample_pointer = record { birth = client_birth 5; iface = record { 0 = 10 }; version = 9 }

abbrev pub both_open : World
both_open = record opening_world {
  births = 8;
  client = put (put nothing sample_surface.birth (Some (Open sample_surface)))
      sample_pointer.birth (Some (Open sample_pointer));
  server = put (put nothing sample_surface.birth (Some sample_surface))
      sample_pointer.birth (Some sample_pointer);
}

-- the server says that the pointer enters the surface
abbrev pub enter : Message Born
enter = record {
  target = sample_pointer;
  opcode = 0;
  args = Uint 1 ∷ Obj (Some sample_surface) ∷ Fixed (pos 0) ∷ Fixed (pos 0) ∷ [];
  ends = None;
}

-- before the client reads that, it destroys the surface
abbrev pub destroy : Message Born
destroy = record { target = sample_surface; opcode = 0; args = []; ends = Some sample_surface }

abbrev pub entered : World
entered = event_written both_open enter

abbrev pub destroy_written : World
destroy_written = request_written entered destroy

abbrev pub crossed : List Interface → World
crossed tables = event_read tables destroy_written enter []

-- the client's report: the surface is dead
abbrev pub sample_report : events.Report
sample_report =
    events.Event (record { id = 6; birth = 5 }) 0
    (Uint 1 ∷ Obj (named_as.Dead (record { id = 4; birth = 3 })) ∷ Fixed (pos 0) ∷ Fixed (pos 0)
    ∷ [])

pub record DeadArgument (tables : List Interface) : Type 0 where
  pub tells : Steps tables both_open (WriteEvent enter) entered
  pub asks : Steps tables entered (WriteRequest destroy) destroy_written
  pub sees : Steps tables destroy_written (ReadEvent (Event enter)) (crossed tables)
  pub reports : ReportsComing destroy_written (Event enter) sample_report
  pub reads : Steps tables (crossed tables) (ReadRequest destroy)
      (request_read (crossed tables) destroy [])
  pub deletes : (request_read (crossed tables) destroy []).events ≡ Delete sample_surface ∷ []

-- The same, but then the server posts an error about the surface. The client reads the event, then
-- the error, whose object is dead. The request that destroys the surface is never read.
abbrev pub surface_error : Posted
surface_error = record { object = sample_surface; code = 2; text = codes "no buffer" }

abbrev pub error_posted : World
error_posted = in_stage destroy_written (Failing surface_error)

abbrev pub events_read : List Interface → World
events_read tables = event_read tables error_posted enter []

abbrev pub sample_error_report : events.Report
sample_error_report =
    events.Error 4 (named_as.Dead (record { id = 4; birth = 3 })) 2 (codes "no buffer")

pub record DeadInError (tables : List Interface) : Type 0 where
  pub tells : Steps tables both_open (WriteEvent enter) entered
  pub asks : Steps tables entered (WriteRequest destroy) destroy_written
  pub posts_it : Steps tables destroy_written (Post surface_error) error_posted
  pub sees : Steps tables error_posted (ReadEvent (Event enter)) (events_read tables)
  pub reports : ReportsComing error_posted (Event enter) sample_report
  pub reads_it : Steps tables (events_read tables) (ReadError surface_error)
      (in_stage (events_read tables) (Over surface_error))
  pub reports_it : ReportsError (events_read tables) surface_error sample_error_report
  pub unread : (in_stage (events_read tables) (Over surface_error)).requests ≡ destroy ∷ []

-- A wl_fixes, birth 8, and a registry, birth 9, are open at both ends.
abbrev pub fixer : Born
fixer = record { birth = client_birth 8; iface = fixes; version = 1 }

abbrev pub registered : Born
registered = record { birth = client_birth 9; iface = registry; version = 1 }

abbrev pub both_registered : World
both_registered = record opening_world {
  births = 10;
  client = put (put nothing fixer.birth (Some (Open fixer)))
      registered.birth (Some (Open registered));
  server = put (put nothing fixer.birth (Some fixer)) registered.birth (Some registered);
  registries = nothing_told registered ∷ [];
}

-- the server announces a global to the registry
abbrev pub tell : Message Born
tell = record {
  target = registered;
  opcode = 0;
  args = Uint 4 ∷ Str (Some (codes "wl_shm")) ∷ Uint 2 ∷ [];
  ends = None;
}

-- before the client reads that, it destroys the registry
abbrev pub destroy_registry : Message Born
destroy_registry = record {
  target = fixer;
  opcode = 1;
  args = Obj (Some registered) ∷ [];
  ends = Some registered;
}

abbrev pub global_told : World
global_told = event_written both_registered tell

abbrev pub registry_destroyed : World
registry_destroyed = request_written global_told destroy_registry

abbrev pub global_dropped : List Interface → World
global_dropped tables = event_read tables registry_destroyed tell []

abbrev pub registry_closed : List Interface → World
registry_closed tables = request_read (global_dropped tables) destroy_registry []

abbrev pub registry_gone : List Interface → World
registry_gone tables = delete_read (registry_closed tables) registered []

-- each is a step: the event is discarded and the client learns nothing, the closed registry is owed
-- nothing, and its delete follows
pub record DeadRegistry (tables : List Interface) : Type 0 where
  pub tells : Steps tables both_registered (WriteEvent tell) global_told
  pub asks : Steps tables global_told (WriteRequest destroy_registry) registry_destroyed
  pub sees : Steps tables registry_destroyed (ReadEvent (Event tell)) (global_dropped tables)
  pub reports : ReportsComing registry_destroyed (Event tell)
      (events.Discarded (record { id = 10; birth = 9 }) 0 [])
  pub teaches_nothing : (global_dropped tables).remembered ≡ []
  pub reads : Steps tables (global_dropped tables) (ReadRequest destroy_registry)
      (registry_closed tables)
  pub owes_nothing : (registry_closed tables).registries ≡ []
  pub deletes : (registry_closed tables).events ≡ Delete registered ∷ []
  pub forgets : Steps tables (registry_closed tables) (ReadEvent (Delete registered))
      (registry_gone tables)
  pub not_at_client : (registry_gone tables).client registered.birth ≡ None
  pub not_at_server : (registry_gone tables).server registered.birth ≡ None

-- A device, birth 1 of the client, is open at both ends. Its event with opcode 0 makes an offer,
-- its event with opcode 1 shows one.
abbrev pub sample_device : Born
sample_device = record { birth = client_birth 1; iface = record { 0 = 5 }; version = 3 }

-- three offers, births 1 to 3 of the server
abbrev pub first_offer : Born
first_offer = record { birth = server_birth 1; iface = record { 0 = 6 }; version = 3 }

abbrev pub second_offer : Born
second_offer = record { birth = server_birth 2; iface = record { 0 = 6 }; version = 3 }

abbrev pub third_offer : Born
third_offer = record { birth = server_birth 3; iface = record { 0 = 6 }; version = 3 }

abbrev pub device_open : World
device_open = record opening_world {
  births = 2;
  client = put nothing sample_device.birth (Some (Open sample_device));
  server = put nothing sample_device.birth (Some sample_device);
}

-- the event that makes an offer
abbrev pub make_offer : Born → Message Born
make_offer offer = record {
  target = sample_device;
  opcode = 0;
  args = New offer ∷ [];
  ends = None;
}

-- the event that names the first offer
abbrev pub show_offer : Message Born
show_offer = record {
  target = sample_device;
  opcode = 1;
  args = Obj (Some first_offer) ∷ [];
  ends = None;
}

-- the request that destroys the first offer
abbrev pub destroy_offer : Message Born
destroy_offer = record { target = first_offer; opcode = 0; args = []; ends = Some first_offer }

-- the request that destroys the device
abbrev pub destroy_device : Message Born
destroy_device = record {
  target = sample_device;
  opcode = 2;
  args = [];
  ends = Some sample_device;
}

abbrev pub offer_made : World
offer_made = event_written device_open (make_offer first_offer)

abbrev pub offer_seen : List Interface → World
offer_seen tables = event_read tables offer_made (make_offer first_offer) []

abbrev pub offer_destroyed : List Interface → World
offer_destroyed tables = request_written (offer_seen tables) destroy_offer

abbrev pub offer_shown : List Interface → World
offer_shown tables = event_written (offer_destroyed tables) show_offer

abbrev pub dead_offer_seen : List Interface → World
dead_offer_seen tables = event_read tables (offer_shown tables) show_offer []

abbrev pub offer_closed : List Interface → World
offer_closed tables = request_read (dead_offer_seen tables) destroy_offer []

abbrev pub offer_made_again : List Interface → World
offer_made_again tables = event_written (offer_closed tables) (make_offer second_offer)

abbrev pub second_seen : List Interface → World
second_seen tables = event_read tables (offer_made_again tables) (make_offer second_offer) []

abbrev pub third_made : List Interface → World
third_made tables = event_written (second_seen tables) (make_offer third_offer)

abbrev pub device_destroyed : List Interface → World
device_destroyed tables = request_written (third_made tables) destroy_device

abbrev pub third_opened : List Interface → World
third_opened tables = event_read tables (device_destroyed tables) (make_offer third_offer) []

abbrev pub device_closed : List Interface → World
device_closed tables = request_read (third_opened tables) destroy_device []

abbrev pub device_gone : List Interface → World
device_gone tables = delete_read (device_closed tables) sample_device []

-- The client's report of an event of the device, with this opcode and this argument.
abbrev pub offer_report : ℕ → Reported → events.Report
offer_report opcode argument =
    events.Event (record { id = 3; birth = 1 }) opcode (argument ∷ [])

-- Each is a step. The client destroys the offer while the server shows it, so the client's report
-- has it dead. The server reads the destroying request, writes no delete, and makes the second
-- offer. The reports show both with the same id; the world itself has no ids. Then the client
-- destroys the device while the server makes the third offer, so that event is discarded, and its
-- offer still opens. In the end nothing is in flight, the first offer is still ending at the
-- client, and the other two are open at both ends.
pub record ServerObjectLives (tables : List Interface) : Type 0 where
  pub makes : Steps tables device_open (WriteEvent (make_offer first_offer)) offer_made
  pub sees : Steps tables offer_made (ReadEvent (Event (make_offer first_offer)))
      (offer_seen tables)
  pub reports_new : ReportsComing offer_made (Event (make_offer first_offer))
      (offer_report 0 (New (record { id = 4278190080; birth = 1 })))
  pub asks : Steps tables (offer_seen tables) (WriteRequest destroy_offer) (offer_destroyed tables)
  pub shows : Steps tables (offer_destroyed tables) (WriteEvent show_offer) (offer_shown tables)
  pub sees_dead : Steps tables (offer_shown tables) (ReadEvent (Event show_offer))
      (dead_offer_seen tables)
  pub reports_dead : ReportsComing (offer_shown tables) (Event show_offer)
      (offer_report 1 (Obj (named_as.Dead (record { id = 4278190080; birth = 1 }))))
  pub reads : Steps tables (dead_offer_seen tables) (ReadRequest destroy_offer)
      (offer_closed tables)
  pub writes_nothing : (offer_closed tables).events ≡ []
  pub makes_again : Steps tables (offer_closed tables) (WriteEvent (make_offer second_offer))
      (offer_made_again tables)
  pub sees_again : Steps tables (offer_made_again tables)
      (ReadEvent (Event (make_offer second_offer))) (second_seen tables)
  pub reports_again : ReportsComing (offer_made_again tables) (Event (make_offer second_offer))
      (offer_report 0 (New (record { id = 4278190080; birth = 2 })))
  pub makes_third : Steps tables (second_seen tables) (WriteEvent (make_offer third_offer))
      (third_made tables)
  pub destroys_device : Steps tables (third_made tables) (WriteRequest destroy_device)
      (device_destroyed tables)
  pub sees_discarded : Steps tables (device_destroyed tables)
      (ReadEvent (Event (make_offer third_offer))) (third_opened tables)
  pub reports_discarded : ReportsComing (device_destroyed tables) (Event (make_offer third_offer))
      (events.Discarded (record { id = 3; birth = 1 }) 0 [])
  pub opens_third : (third_opened tables).client third_offer.birth ≡ Some (Open third_offer)
  pub reads_device : Steps tables (third_opened tables) (ReadRequest destroy_device)
      (device_closed tables)
  pub deletes_device : (device_closed tables).events ≡ Delete sample_device ∷ []
  pub forgets_device : Steps tables (device_closed tables) (ReadEvent (Delete sample_device))
      (device_gone tables)
  pub no_requests : (device_gone tables).requests ≡ []
  pub no_events : (device_gone tables).events ≡ []
  pub first_at_client : (device_gone tables).client first_offer.birth ≡ Some (Ending first_offer)
  pub first_at_server : (device_gone tables).server first_offer.birth ≡ None
  pub second_at_client : (device_gone tables).client second_offer.birth ≡ Some (Open second_offer)
  pub second_at_server : (device_gone tables).server second_offer.birth ≡ Some second_offer
  pub third_at_client : (device_gone tables).client third_offer.birth ≡ Some (Open third_offer)
  pub third_at_server : (device_gone tables).server third_offer.birth ≡ Some third_offer
  pub next : (device_gone tables).server_births ≡ 4
