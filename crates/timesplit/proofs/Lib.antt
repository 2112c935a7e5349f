mod StayCount
