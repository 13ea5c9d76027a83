mod Replay
