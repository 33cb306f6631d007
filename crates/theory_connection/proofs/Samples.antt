-- Each of the four histories has the steps that it says.
use Rattle.std.proofs.Common.{List, [], ◌∷◌, refl}
use Rattle.wl_sigs.specs.Tables.{Interface}
use Rattle.theory_connection.specs.Meant.{Delete}
use Rattle.theory_connection.specs.World.{put, nothing, writes_request, reads_request, writes_event}
use Rattle.theory_connection.specs.World.{reads_event, reads_delete, posts, reads_error}
use Rattle.theory_connection.specs.Samples.{CallbackLives, sync, done, sample_callback, DeadArgument, enter}
use Rattle.theory_connection.specs.Samples.{destroy, DeadInError, surface_error}
use Rattle.theory_connection.specs.Samples.{DeadRegistry, tell, destroy_registry}
use Rattle.theory_connection.specs.Samples.{registered, ServerObjectLives, make_offer, show_offer}
use Rattle.theory_connection.specs.Samples.{destroy_offer, first_offer, second_offer, third_offer}
use Rattle.theory_connection.specs.Samples.{destroy_device, sample_device}

-- the steps of a callback from its making to its delete, in any tables
pub callback_lives : (tables : List Interface) → CallbackLives tables
unfolding put nothing
callback_lives tables = record {
  asks = writes_request sync refl refl tt refl;
  reads = reads_request sync [] refl refl;
  tells = writes_event done refl refl tt tt;
  sees = reads_event done (Delete sample_callback ∷ []) refl refl;
  forgets = reads_delete sample_callback [] refl refl;
  ends_here = refl;
  not_at_client = refl;
  not_at_server = refl;
  no_requests = refl;
  no_events = refl;
  next = refl;
}

-- the steps to an event whose argument is dead when it comes, in any tables
pub dead_argument : (tables : List Interface) → DeadArgument tables
unfolding put nothing
dead_argument tables = record {
  tells = writes_event enter refl refl (refl, tt) tt;
  asks = writes_request destroy refl refl tt tt;
  sees = reads_event enter [] refl refl;
  reports = (refl, refl, refl, refl);
  reads = reads_request destroy [] refl refl;
  deletes = refl;
}

-- the steps to an error whose object is dead when it comes, in any tables
pub dead_in_error : (tables : List Interface) → DeadInError tables
unfolding put nothing
dead_in_error tables = record {
  tells = writes_event enter refl refl (refl, tt) tt;
  asks = writes_request destroy refl refl tt tt;
  posts_it = posts surface_error refl refl;
  sees = reads_event enter [] refl refl;
  reports = (refl, refl, refl, refl);
  reads_it = reads_error surface_error refl refl;
  reports_it = (refl, refl, refl);
  unread = refl;
}

-- the steps to an event of a registry that is dead when it comes, in any tables
pub dead_registry : (tables : List Interface) → DeadRegistry tables
unfolding put nothing
dead_registry tables = record {
  tells = writes_event tell refl refl tt tt;
  asks = writes_request destroy_registry refl refl (refl, tt) tt;
  sees = reads_event tell [] refl refl;
  reports = (refl, refl, refl, refl);
  teaches_nothing = refl;
  reads = reads_request destroy_registry [] refl refl;
  owes_nothing = refl;
  deletes = refl;
  forgets = reads_delete registered [] refl refl;
  not_at_client = refl;
  not_at_server = refl;
}

-- the steps of three offers that the server makes, in any tables
pub server_object_lives : (tables : List Interface) → ServerObjectLives tables
unfolding put nothing
server_object_lives tables = record {
  makes = writes_event (make_offer first_offer) refl refl tt refl;
  sees = reads_event (make_offer first_offer) [] refl refl;
  reports_new = (refl, refl, refl, refl);
  asks = writes_request destroy_offer refl refl tt tt;
  shows = writes_event show_offer refl refl (refl, tt) tt;
  sees_dead = reads_event show_offer [] refl refl;
  reports_dead = (refl, refl, refl, refl);
  reads = reads_request destroy_offer [] refl refl;
  writes_nothing = refl;
  makes_again = writes_event (make_offer second_offer) refl refl tt refl;
  sees_again = reads_event (make_offer second_offer) [] refl refl;
  reports_again = (refl, refl, refl, refl);
  makes_third = writes_event (make_offer third_offer) refl refl tt refl;
  destroys_device = writes_request destroy_device refl refl tt tt;
  sees_discarded = reads_event (make_offer third_offer) [] refl refl;
  reports_discarded = (refl, refl, refl, refl);
  opens_third = refl;
  reads_device = reads_request destroy_device [] refl refl;
  deletes_device = refl;
  forgets_device = reads_delete sample_device [] refl refl;
  no_requests = refl;
  no_events = refl;
  first_at_client = refl;
  first_at_server = refl;
  second_at_client = refl;
  second_at_server = refl;
  third_at_client = refl;
  third_at_server = refl;
  next = refl;
}
