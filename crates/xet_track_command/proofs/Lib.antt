mod TrackOutcomes
