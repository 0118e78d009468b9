use Rattle.fb_resolve.proofs.namespaces.MapsKept.{kept_values}
use Rattle.fb_resolve.proofs.namespaces.maps.Maps.overlay.Goals as goal

pub returns-clause-kept : goal.returns-clause-kept
returns-clause-kept c = kept_values c.args.self.now.forks.items _ c.overlay_in.ensures.kept c.args.self.now.height
