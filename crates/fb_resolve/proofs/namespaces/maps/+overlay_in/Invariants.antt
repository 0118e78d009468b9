use Rattle.fb_resolve.proofs.namespaces.maps.+overlay_in.Given as goal

abbrev pub decreases-overlay_in : goal.decreases-overlay_in
decreases-overlay_in l = l.levels
